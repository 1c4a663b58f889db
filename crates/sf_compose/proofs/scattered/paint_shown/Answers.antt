use Rattle.std.proofs.Common.{◌&&◌, List, get_or, map, pos, subst}
use Rattle.sf_base.specs.Geometry.{covers}
use Rattle.sf_base.specs.declared.geometry.Rect.{Rect}
use Rattle.sf_damage.specs.sf_region.Canonical.{IsDisjoint}
use Rattle.sf_damage.specs.sf_region.Points.{has}
use Rattle.sf_compose.specs.inner.Painting.{is_in_area, Paints}
use Rattle.sf_compose.specs.Readings.{under_one}
use Rattle.sf_compose.proofs.ScatteredLemmas.{Paints-shown, near_at, nowhere}
use Rattle.sf_compose.proofs.scattered.paint_shown.Goals as goal

pub paint_met-requires-clause-near : goal.paint_met-requires-clause-near
paint_met-requires-clause-near g c = near_at c.rects-shown-items.result.now c.loop-shown.shown-index nowhere c.loop-shown-test.true c.rects-shown-items.ensures.canonical.banded

pub loop-shown-preserved : goal.loop-shown-preserved
loop-shown-preserved g c =
    let same = c.rects-shown-items.ensures.same in
    Paints-shown c.args.band.width c.args.band.top (is_in_area c.args.area) c.args.part.now c.args.shows.now c.loop-shown.shown-index nowhere
    (λ x y under. under_one (map g.C.Pixels.picture c.args.layer.now.contents.now) (pos x) (pos y) under c.args.layer.now.drawn.now c.args.layer.now.source)
    c.args.frame.now c.loop-shown.frame c.paint_met.new.frame (subst IsDisjoint same c.rects-shown-items.ensures.disjoint) (rw same at c.loop-shown-test.true) c.loop-shown.invariant
    (subst (λ (rects : List Rect). Paints c.args.band.width c.args.band.top (λ x y. (is_in_area c.args.area x y && covers (get_or rects c.loop-shown.shown-index nowhere) (pos x) (pos y)) && has c.args.part.now (pos x) (pos y))
    (λ x y under. under_one (map g.C.Pixels.picture c.args.layer.now.contents.now) (pos x) (pos y) under c.args.layer.now.drawn.now c.args.layer.now.source)
    c.loop-shown.frame c.paint_met.new.frame) same c.paint_met.ensures)
