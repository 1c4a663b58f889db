use Rattle.std.proofs.Common.{map}
use Rattle.std.proofs.lemmas.Bool.{eqb-true}
use Rattle.sf_compose.proofs.CoverLemmas.{HidesBelow-buffer, HidesBelow-colour, HidesBelow-opaque}
use Rattle.sf_compose.proofs.cover.hides_below.Goals as goal

pub returns-then-drawn-2 : goal.returns-then-drawn-2
returns-then-drawn-2 g c = λ yes. HidesBelow-opaque (map g.C.Pixels.picture c.args.layer.now.contents.now) c.args.layer.now.drawn.now c.args.layer.now.source c.if-drawn.false c.if-drawn-2.true

pub returns-in-Colour : goal.returns-in-Colour
returns-in-Colour g c = λ yes. HidesBelow-colour (map g.C.Pixels.picture c.args.layer.now.contents.now) c.args.layer.now.drawn.now c.args.layer.now.source c.in-Colour.colour c.if-drawn.false c.if-drawn-2.false c.in-Colour.is (eqb-true c.in-Colour.colour.a 255 yes)

pub returns-in-Buffer : goal.returns-in-Buffer
returns-in-Buffer g c = λ yes.
    HidesBelow-buffer (map g.C.Pixels.picture c.args.layer.now.contents.now) c.args.layer.now.drawn.now c.args.layer.now.source c.in-Buffer.field-0 c.read.result.now c.if-drawn.false c.if-drawn-2.false c.in-Buffer.is c.read.ensures (c.is_solid.ensures.0 yes) c.requires.readable c.requires.paintable
