use Rattle.std.proofs.Common.{◌∙◌, sym}
use Rattle.sf_damage.proofs.ConstantLemmas.{rest-apart, rest-more}
use Rattle.sf_damage.proofs.ListLemmas.{no_layer}
use Rattle.sf_damage.proofs.constant.tells_apart.Goals as goal

pub returns-then-rect_has : goal.returns-then-rect_has
returns-then-rect_has c = λ t x y inside.
    rest-apart c.args.window.now c.args.layers.now c.args.others.now c.loop-drawn.drawn-index no_layer c.loop-drawn-test.true c.loop-drawn.invariant (sym c.rect_has.ensures ∙ c.if-rect_has.true) (c.lack_sheet.ensures t) x y inside

pub loop-drawn-preserved : goal.loop-drawn-preserved
loop-drawn-preserved c = rest-more c.args.layers.now c.loop-drawn.drawn-index no_layer c.loop-drawn-test.true c.loop-drawn.invariant
