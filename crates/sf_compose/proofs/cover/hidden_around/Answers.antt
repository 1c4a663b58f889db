use Rattle.std.proofs.Common.{◌∙◌, ◌<◌, length, map, sym, arith}
use Rattle.std.proofs.lemmas.Bool.{and_parts}
use Rattle.std.proofs.lemmas.Slice.Zip.{AllZip-long}
use Rattle.sf_base.specs.Geometry.{covers}
use Rattle.sf_compose.specs.Readings.{AreReadable, IsReadable}
use Rattle.sf_compose.specs.inner.Painting.{is_in_area}
use Rattle.sf_compose.proofs.CoverLemmas.{HidesGround-one}
use Rattle.sf_compose.proofs.ReadingLemmas.{readable_at}
use Rattle.sf_compose.proofs.SeenLemmas.{no_layer}
use Rattle.sf_compose.proofs.cover.hidden_around.Goals as goal

pub bounds-composition-at : goal.bounds-composition-at
bounds-composition-at g c =
    let readable : AreReadable (map g.C.Pixels.picture c.args.composition.now.contents.now) c.drawn-layers.result.now c.args.composition.now.sources.now = rw c.drawn-layers.ensures.drawn c.requires.readable in
    let long = AllZip-long (λ drawn source. IsReadable (map g.C.Pixels.picture c.args.composition.now.contents.now) drawn.content source) c.drawn-layers.result.now c.args.composition.now.sources.now readable.all in
    omega (arith, long, c.loop-at-test.true)

pub hides_below-requires-clause-readable : goal.hides_below-requires-clause-readable
hides_below-requires-clause-readable g c =
    let readable : AreReadable (map g.C.Pixels.picture c.args.composition.now.contents.now) c.drawn-layers.result.now c.args.composition.now.sources.now = rw c.drawn-layers.ensures.drawn c.requires.readable in
    readable_at (map g.C.Pixels.picture c.args.composition.now.contents.now) c.drawn-layers.result.now c.args.composition.now.sources.now c.loop-at.at no_layer 0 readable c.loop-at-test.true

pub returns-then-hides_below-clause-hidden : goal.returns-then-hides_below-clause-hidden
unfolding covers
returns-then-hides_below-clause-hidden g c =
    let readable : AreReadable (map g.C.Pixels.picture c.args.composition.now.contents.now) c.drawn-layers.result.now c.args.composition.now.sources.now = rw c.drawn-layers.ensures.drawn c.requires.readable in
    let long = AllZip-long (λ drawn source. IsReadable (map g.C.Pixels.picture c.args.composition.now.contents.now) drawn.content source) c.drawn-layers.result.now c.args.composition.now.sources.now readable.all in
    let within : c.loop-at.at < length c.args.composition.now.sources.now = omega (arith, long, c.loop-at-test.true) in
    rw c.drawn-layers.ensures.drawn at (HidesGround-one (is_in_area c.cut.result) (map g.C.Pixels.picture c.args.composition.now.contents.now) c.drawn-layers.result.now c.args.composition.now.sources.now c.loop-at.at no_layer 0
    c.loop-at-test.true within (c.hides_below.ensures c.if-hides_below.true) (λ x y t. (and_parts _ _ (sym (c.cut.ensures.points x y) ∙ t)).1))
