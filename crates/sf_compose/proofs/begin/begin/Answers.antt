use Rattle.std.proofs.Common.{◌∙◌, ◌-◌, List, map, sym, subst, arith}
use Rattle.std.proofs.lemmas.Slice.Zip.{AllZip-long}
use Rattle.sf_compose.specs.Readings.{AreReadable, IsReadable}
use Rattle.sf_damage.specs.sf_view.declared.drawn.Drawn.{Drawn}
use Rattle.sf_compose.specs.inner.Begun.{AreaIsBegun}
use Rattle.sf_compose.proofs.BegunLemmas.{IsBegun-black, IsBegun-copied, IsBegun-hidden}
use Rattle.sf_compose.proofs.CoverLemmas.{IsBegun-hidden_ground}
use Rattle.sf_compose.proofs.ReadingLemmas.{readable_at}
use Rattle.sf_compose.proofs.begin.begin.Goals as goal

pub returns-then-hides-clause-begun : goal.returns-then-hides-clause-begun
returns-then-hides-clause-begun g c =
    let readable : AreReadable (map g.C.Pixels.picture c.args.composition.now.contents.now) c.drawn-layers.result.now c.args.composition.now.sources.now = rw c.drawn-layers.ensures.drawn c.requires.readable in
    let long = AllZip-long (λ drawn source. IsReadable (map g.C.Pixels.picture c.args.composition.now.contents.now) drawn.content source) c.drawn-layers.result.now c.args.composition.now.sources.now readable.all in
    subst (λ (drawn : List Drawn). AreaIsBegun c.args.band c.args.area (map g.C.Pixels.picture c.args.composition.now.contents.now) drawn c.args.composition.now.sources.now (c.loop-at.at - 1) c.loop-at.frame) c.drawn-layers.ensures.drawn
    (IsBegun-hidden _ _ c.args.area (map g.C.Pixels.picture c.args.composition.now.contents.now) c.drawn-layers.result.now c.args.composition.now.sources.now _ _ _ (omega (arith, c.loop-at.invariant.0, c.loop-at-test.true)) (omega (arith, long, c.loop-at.invariant.0, c.loop-at-test.true)) (sym c.hides.ensures ∙ c.if-hides.true))

pub bounds-sources-at : goal.bounds-sources-at
bounds-sources-at g c =
    let readable : AreReadable (map g.C.Pixels.picture c.args.composition.now.contents.now) c.drawn-layers.result.now c.args.composition.now.sources.now = rw c.drawn-layers.ensures.drawn c.requires.readable in
    let long = AllZip-long (λ drawn source. IsReadable (map g.C.Pixels.picture c.args.composition.now.contents.now) drawn.content source) c.drawn-layers.result.now c.args.composition.now.sources.now readable.all in
    omega (arith, long, c.loop-at.invariant.0, c.loop-at-test.true)

pub copy_layer-requires-clause-readable : goal.copy_layer-requires-clause-readable
copy_layer-requires-clause-readable g c =
    let readable : AreReadable (map g.C.Pixels.picture c.args.composition.now.contents.now) c.drawn-layers.result.now c.args.composition.now.sources.now = rw c.drawn-layers.ensures.drawn c.requires.readable in
    readable_at (map g.C.Pixels.picture c.args.composition.now.contents.now) c.drawn-layers.result.now c.args.composition.now.sources.now _ _ _ readable (omega (arith, c.loop-at.invariant.0, c.loop-at-test.true))

pub returns-then-copy_layer-clause-begun : goal.returns-then-copy_layer-clause-begun
returns-then-copy_layer-clause-begun g c =
    let readable : AreReadable (map g.C.Pixels.picture c.args.composition.now.contents.now) c.drawn-layers.result.now c.args.composition.now.sources.now = rw c.drawn-layers.ensures.drawn c.requires.readable in
    let long = AllZip-long (λ drawn source. IsReadable (map g.C.Pixels.picture c.args.composition.now.contents.now) drawn.content source) c.drawn-layers.result.now c.args.composition.now.sources.now readable.all in
    subst (λ (drawn : List Drawn). AreaIsBegun c.args.band c.args.area (map g.C.Pixels.picture c.args.composition.now.contents.now) drawn c.args.composition.now.sources.now c.loop-at.at c.copy_layer.new.frame) c.drawn-layers.ensures.drawn
    (IsBegun-copied _ _ _ (map g.C.Pixels.picture c.args.composition.now.contents.now) c.drawn-layers.result.now c.args.composition.now.sources.now (c.loop-at.at - 1) c.loop-at.at _ _ _ _ (omega (arith, c.loop-at-test.true)) (omega (arith, c.loop-at.invariant.0, c.loop-at-test.true)) (omega (arith, long, c.loop-at.invariant.0, c.loop-at-test.true))
    (c.copy_layer.ensures.copied c.if-copy_layer.true))

pub returns-then-is_hidden-clause-begun : goal.returns-then-is_hidden-clause-begun
returns-then-is_hidden-clause-begun g c = IsBegun-hidden_ground _ _ _ _ _ _ _ (c.is_hidden.ensures c.if-is_hidden.true)

pub returns-clause-begun : goal.returns-clause-begun
returns-clause-begun g c =
    subst (λ (drawn : List Drawn). AreaIsBegun c.args.band c.args.area (map g.C.Pixels.picture c.args.composition.now.contents.now) drawn c.args.composition.now.sources.now 0 c.paint_area.new.frame) c.drawn-layers.ensures.drawn
    (IsBegun-black _ _ _ (map g.C.Pixels.picture c.args.composition.now.contents.now) c.drawn-layers.result.now c.args.composition.now.sources.now _ _ c.paint_area.ensures)
