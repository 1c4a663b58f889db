use Rattle.std.proofs.Common.{◌+◌, ◌∙◌, ◌&&◌, ◌<◌, List, get_or, length, map, pos, subst, arith}
use Rattle.std.proofs.lemmas.List.{take_all}
use Rattle.std.proofs.lemmas.Slice.Zip.{AllZip-long}
use Rattle.sf_base.specs.Geometry.{covers}
use Rattle.sf_base.specs.declared.geometry.Rect.{Rect}
use Rattle.sf_damage.specs.sf_region.Points.{has}
use Rattle.sf_damage.specs.sf_view.declared.drawn.Drawn.{Drawn}
use Rattle.sf_compose.specs.inner.Begun.{AreaIsBegun}
use Rattle.sf_compose.specs.inner.Painting.{is_in_area, Paints}
use Rattle.sf_compose.specs.inner.Seen.{AreSeenAt}
use Rattle.sf_compose.specs.Readings.{AreReadable, IsReadable, under_one}
use Rattle.sf_compose.proofs.BegunLemmas.{AreSeenAt-long, Spares-painted}
use Rattle.sf_compose.proofs.ReadingLemmas.{readable_at}
use Rattle.sf_compose.proofs.SeenLemmas.{IsBegun-seen, IsBegun-whole, no_layer, Paints-part, part_beside}
use Rattle.sf_compose.proofs.seen.paint_shown.Goals as goal

abbrev nowhere : Rect
nowhere = record { x = pos 0; y = pos 0; width = 0; height = 0 }

pub bounds-layers-at : goal.bounds-layers-at
bounds-layers-at g c = rw c.drawn-layers.ensures.drawn c.requires.inside

pub bounds-composition-at : goal.bounds-composition-at
bounds-composition-at g c =
    let readable : AreReadable (map g.C.Pixels.picture c.args.composition.now.contents.now) c.drawn-layers.result.now c.args.composition.now.sources.now = rw c.drawn-layers.ensures.drawn c.requires.readable in
    let inside : c.args.at < length c.drawn-layers.result.now = rw c.drawn-layers.ensures.drawn c.requires.inside in
    let long = AllZip-long (λ drawn source. IsReadable (map g.C.Pixels.picture c.args.composition.now.contents.now) drawn.content source) c.drawn-layers.result.now c.args.composition.now.sources.now readable.all in
    omega (arith, long, inside)

pub bounds-shows-at : goal.bounds-shows-at
bounds-shows-at g c =
    let inside : c.args.at < length c.drawn-layers.result.now = rw c.drawn-layers.ensures.drawn c.requires.inside in
    let given : AreSeenAt (is_in_area c.args.area) c.args.composition.now.view.now.drawn c.in-Some.shows.now = rw c.in-Some.is at c.requires.visible in
    let visible : AreSeenAt (is_in_area c.args.area) c.drawn-layers.result.now c.in-Some.shows.now = rw c.drawn-layers.ensures.drawn given in
    let long = AreSeenAt-long (is_in_area c.args.area) c.drawn-layers.result.now c.in-Some.shows.now visible in
    omega (arith, long, inside)

pub paint_layer-requires-clause-readable : goal.paint_layer-requires-clause-readable
paint_layer-requires-clause-readable g c =
    let readable : AreReadable (map g.C.Pixels.picture c.args.composition.now.contents.now) c.drawn-layers.result.now c.args.composition.now.sources.now = rw c.drawn-layers.ensures.drawn c.requires.readable in
    let inside : c.args.at < length c.drawn-layers.result.now = rw c.drawn-layers.ensures.drawn c.requires.inside in
    readable_at (map g.C.Pixels.picture c.args.composition.now.contents.now) c.drawn-layers.result.now c.args.composition.now.sources.now c.args.at no_layer 0 readable inside

pub is_faster_whole-requires : goal.is_faster_whole-requires
is_faster_whole-requires g c =
    let readable : AreReadable (map g.C.Pixels.picture c.args.composition.now.contents.now) c.drawn-layers.result.now c.args.composition.now.sources.now = rw c.drawn-layers.ensures.drawn c.requires.readable in
    let inside : c.args.at < length c.drawn-layers.result.now = rw c.drawn-layers.ensures.drawn c.requires.inside in
    readable_at (map g.C.Pixels.picture c.args.composition.now.contents.now) c.drawn-layers.result.now c.args.composition.now.sources.now c.args.at no_layer 0 readable inside

pub paint_layer-requires-then-is_faster_whole-clause-readable : goal.paint_layer-requires-then-is_faster_whole-clause-readable
paint_layer-requires-then-is_faster_whole-clause-readable g c =
    let readable : AreReadable (map g.C.Pixels.picture c.args.composition.now.contents.now) c.drawn-layers.result.now c.args.composition.now.sources.now = rw c.drawn-layers.ensures.drawn c.requires.readable in
    let inside : c.args.at < length c.drawn-layers.result.now = rw c.drawn-layers.ensures.drawn c.requires.inside in
    readable_at (map g.C.Pixels.picture c.args.composition.now.contents.now) c.drawn-layers.result.now c.args.composition.now.sources.now c.args.at no_layer 0 readable inside

pub paint_layer-requires-in-loop-part-clause-readable : goal.paint_layer-requires-in-loop-part-clause-readable
paint_layer-requires-in-loop-part-clause-readable g c =
    let readable : AreReadable (map g.C.Pixels.picture c.args.composition.now.contents.now) c.drawn-layers.result.now c.args.composition.now.sources.now = rw c.drawn-layers.ensures.drawn c.requires.readable in
    let inside : c.args.at < length c.drawn-layers.result.now = rw c.drawn-layers.ensures.drawn c.requires.inside in
    readable_at (map g.C.Pixels.picture c.args.composition.now.contents.now) c.drawn-layers.result.now c.args.composition.now.sources.now c.args.at no_layer 0 readable inside

pub returns-in_default-clause-begun : goal.returns-in_default-clause-begun
returns-in_default-clause-begun g c =
    let readable : AreReadable (map g.C.Pixels.picture c.args.composition.now.contents.now) c.drawn-layers.result.now c.args.composition.now.sources.now = rw c.drawn-layers.ensures.drawn c.requires.readable in
    let inside : c.args.at < length c.drawn-layers.result.now = rw c.drawn-layers.ensures.drawn c.requires.inside in
    let long = AllZip-long (λ drawn source. IsReadable (map g.C.Pixels.picture c.args.composition.now.contents.now) drawn.content source) c.drawn-layers.result.now c.args.composition.now.sources.now readable.all in
    let within : c.args.at < length c.args.composition.now.sources.now = omega (arith, long, inside) in
    let begun : AreaIsBegun c.args.band c.args.area (map g.C.Pixels.picture c.args.composition.now.contents.now) c.drawn-layers.result.now c.args.composition.now.sources.now c.args.at c.args.frame.now = rw c.drawn-layers.ensures.drawn c.requires.begun in
    subst (λ (drawn : List Drawn). AreaIsBegun c.args.band c.args.area (map g.C.Pixels.picture c.args.composition.now.contents.now) drawn c.args.composition.now.sources.now (c.args.at + 1) c.paint_layer.new.frame) c.drawn-layers.ensures.drawn
    (IsBegun-whole c.args.band.width c.args.band.top c.args.area (map g.C.Pixels.picture c.args.composition.now.contents.now) c.drawn-layers.result.now c.args.composition.now.sources.now c.args.at no_layer 0 c.args.frame.now c.paint_layer.new.frame inside within c.paint_layer.ensures begun)

pub returns-then-is_faster_whole-clause-begun : goal.returns-then-is_faster_whole-clause-begun
returns-then-is_faster_whole-clause-begun g c =
    let readable : AreReadable (map g.C.Pixels.picture c.args.composition.now.contents.now) c.drawn-layers.result.now c.args.composition.now.sources.now = rw c.drawn-layers.ensures.drawn c.requires.readable in
    let inside : c.args.at < length c.drawn-layers.result.now = rw c.drawn-layers.ensures.drawn c.requires.inside in
    let long = AllZip-long (λ drawn source. IsReadable (map g.C.Pixels.picture c.args.composition.now.contents.now) drawn.content source) c.drawn-layers.result.now c.args.composition.now.sources.now readable.all in
    let within : c.args.at < length c.args.composition.now.sources.now = omega (arith, long, inside) in
    let begun : AreaIsBegun c.args.band c.args.area (map g.C.Pixels.picture c.args.composition.now.contents.now) c.drawn-layers.result.now c.args.composition.now.sources.now c.args.at c.args.frame.now = rw c.drawn-layers.ensures.drawn c.requires.begun in
    subst (λ (drawn : List Drawn). AreaIsBegun c.args.band c.args.area (map g.C.Pixels.picture c.args.composition.now.contents.now) drawn c.args.composition.now.sources.now (c.args.at + 1) c.paint_layer-then-is_faster_whole.new.frame) c.drawn-layers.ensures.drawn
    (IsBegun-whole c.args.band.width c.args.band.top c.args.area (map g.C.Pixels.picture c.args.composition.now.contents.now) c.drawn-layers.result.now c.args.composition.now.sources.now c.args.at no_layer 0 c.args.frame.now c.paint_layer-then-is_faster_whole.new.frame inside within c.paint_layer-then-is_faster_whole.ensures begun)

pub loop-part-preserved : goal.loop-part-preserved
unfolding covers
loop-part-preserved g c =
    Paints-part c.args.band.width c.args.band.top c.args.area c.cut.result c.rects-parts.result.now c.loop-part.part-index nowhere
    (λ x y under. under_one (map g.C.Pixels.picture c.args.composition.now.contents.now) (pos x) (pos y) under (get_or c.drawn-layers.result.now c.args.at no_layer) (get_or c.args.composition.now.sources.now c.args.at 0))
    c.args.frame.now c.loop-part.frame c.paint_layer-in-loop-part.new.frame c.rects-parts.ensures.disjoint c.loop-part-test.true c.loop-part.invariant c.paint_layer-in-loop-part.ensures c.cut.ensures.points

pub returns-clause-spared : goal.returns-clause-spared
returns-clause-spared g c =
    Spares-painted _ _ _ (is_in_area c.args.area) _ _ _ c.loop-part.invariant (λ x y t. part_beside c.args.area _ x y t)

pub returns-clause-begun : goal.returns-clause-begun
returns-clause-begun g c =
    let readable : AreReadable (map g.C.Pixels.picture c.args.composition.now.contents.now) c.drawn-layers.result.now c.args.composition.now.sources.now = rw c.drawn-layers.ensures.drawn c.requires.readable in
    let inside : c.args.at < length c.drawn-layers.result.now = rw c.drawn-layers.ensures.drawn c.requires.inside in
    let long = AllZip-long (λ drawn source. IsReadable (map g.C.Pixels.picture c.args.composition.now.contents.now) drawn.content source) c.drawn-layers.result.now c.args.composition.now.sources.now readable.all in
    let within : c.args.at < length c.args.composition.now.sources.now = omega (arith, long, inside) in
    let given : AreSeenAt (is_in_area c.args.area) c.args.composition.now.view.now.drawn c.in-Some.shows.now = rw c.in-Some.is at c.requires.visible in
    let visible : AreSeenAt (is_in_area c.args.area) c.drawn-layers.result.now c.in-Some.shows.now = rw c.drawn-layers.ensures.drawn given in
    let begun : AreaIsBegun c.args.band c.args.area (map g.C.Pixels.picture c.args.composition.now.contents.now) c.drawn-layers.result.now c.args.composition.now.sources.now c.args.at c.args.frame.now = rw c.drawn-layers.ensures.drawn c.requires.begun in
    let done = take_all c.loop-part.part-index c.rects-parts.result.now c.loop-part-test.false ∙ (c.rects-parts.ensures.same ∙ c.index-shows-at.is) in
    subst (λ (drawn : List Drawn). AreaIsBegun c.args.band c.args.area (map g.C.Pixels.picture c.args.composition.now.contents.now) drawn c.args.composition.now.sources.now (c.args.at + 1) c.loop-part.frame) c.drawn-layers.ensures.drawn
    (IsBegun-seen c.args.band.width c.args.band.top (is_in_area c.args.area) (map g.C.Pixels.picture c.args.composition.now.contents.now) c.drawn-layers.result.now c.args.composition.now.sources.now c.in-Some.shows.now c.args.at no_layer 0 c.index-shows-at.result c.args.frame.now c.loop-part.frame inside within readable visible
    (subst (λ (rects : List Rect). Paints c.args.band.width c.args.band.top (λ x y. is_in_area c.args.area x y && has rects (pos x) (pos y))
    (λ x y under. under_one (map g.C.Pixels.picture c.args.composition.now.contents.now) (pos x) (pos y) under (get_or c.drawn-layers.result.now c.args.at no_layer) (get_or c.args.composition.now.sources.now c.args.at 0)) c.args.frame.now c.loop-part.frame) done c.loop-part.invariant)
    begun)
