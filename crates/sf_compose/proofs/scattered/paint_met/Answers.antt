use Rattle.std.proofs.Common.{◌≡◌, ◌∙◌, ◌+◌, ◌&&◌, ℕ, Bool, List, ap, get_or, map, pos, subst, take}
use Rattle.std.proofs.lemmas.List.{take_all}
use Rattle.sf_base.specs.Geometry.{covers}
use Rattle.sf_base.specs.declared.geometry.Rect.{Rect}
use Rattle.sf_damage.specs.sf_region.Canonical.{IsDisjoint}
use Rattle.sf_damage.specs.sf_region.Points.{has}
use Rattle.sf_compose.specs.inner.Painting.{is_in_area, Paints}
use Rattle.sf_compose.specs.Readings.{under_one}
use Rattle.sf_compose.proofs.PaintLemmas.{Paints-none}
use Rattle.sf_compose.proofs.ScatteredLemmas.{Paints-passed, nowhere}
use Rattle.sf_compose.proofs.SeenLemmas.{Paints-piece, right_false}
use Rattle.sf_compose.proofs.scattered.paint_met.Goals as goal

pub loop-at-init : goal.loop-at-init
loop-at-init g c = record {
  within = c.next_meeting-at.ensures.within;
  paints = Paints-passed c.args.band.width c.args.band.top (is_in_area c.args.area) c.args.shown.now c.args.part.now 0 c.next_meeting-at.result
      (λ x y under. under_one (map g.C.Pixels.picture c.args.layer.now.contents.now) (pos x) (pos y) under c.args.layer.now.drawn.now c.args.layer.now.source)
      c.args.frame.now c.args.frame.now c.next_meeting-at.ensures.same
      (Paints-none c.args.band.width c.args.band.top (λ x y. (is_in_area c.args.area x y && covers c.args.shown.now (pos x) (pos y)) && has (take 0 c.args.part.now) (pos x) (pos y))
      (λ x y under. under_one (map g.C.Pixels.picture c.args.layer.now.contents.now) (pos x) (pos y) under c.args.layer.now.drawn.now c.args.layer.now.source)
      c.args.frame.now (λ x y. right_false (is_in_area c.args.area x y && covers c.args.shown.now (pos x) (pos y))));
}

pub loop-at-preserved : goal.loop-at-preserved
unfolding covers
loop-at-preserved g c =
    let same = c.rects-rects.ensures.same in
    let at = c.loop-at.at in
    let points : (x y : ℕ) → is_in_area c.cut-piece.result x y ≡ ((is_in_area c.args.area x y && covers c.args.shown.now (pos x) (pos y)) && covers (get_or c.args.part.now at nowhere) (pos x) (pos y)) =
    λ x y. (rw same at (c.cut-piece.ensures.points x y)) ∙ ap (λ (t : Bool). t && covers (get_or c.args.part.now at nowhere) (pos x) (pos y)) (c.cut-here.ensures.points x y) in
    record {
      within = c.next_meeting-next.ensures.within;
      paints = Paints-passed c.args.band.width c.args.band.top (is_in_area c.args.area) c.args.shown.now c.args.part.now (at + 1) c.next_meeting-next.result
          (λ x y under. under_one (map g.C.Pixels.picture c.args.layer.now.contents.now) (pos x) (pos y) under c.args.layer.now.drawn.now c.args.layer.now.source)
          c.args.frame.now c.paint_layer.new.frame c.next_meeting-next.ensures.same
          (Paints-piece c.args.band.width c.args.band.top (λ x y. is_in_area c.args.area x y && covers c.args.shown.now (pos x) (pos y)) (is_in_area c.cut-piece.result) c.args.part.now at nowhere
          (λ x y under. under_one (map g.C.Pixels.picture c.args.layer.now.contents.now) (pos x) (pos y) under c.args.layer.now.drawn.now c.args.layer.now.source)
          c.args.frame.now c.loop-at.frame c.paint_layer.new.frame (subst IsDisjoint same c.rects-rects.ensures.disjoint) (rw same at c.loop-at-test.true) c.loop-at.invariant.paints c.paint_layer.ensures points);
    }

pub returns : goal.returns
returns g c =
    let done = take_all c.loop-at.at c.args.part.now (rw c.rects-rects.ensures.same at c.loop-at-test.false) in
    subst (λ (part : List Rect). Paints c.args.band.width c.args.band.top (λ x y. (is_in_area c.args.area x y && covers c.args.shown.now (pos x) (pos y)) && has part (pos x) (pos y))
    (λ x y under. under_one (map g.C.Pixels.picture c.args.layer.now.contents.now) (pos x) (pos y) under c.args.layer.now.drawn.now c.args.layer.now.source)
    c.args.frame.now c.loop-at.frame) done c.loop-at.invariant.paints
