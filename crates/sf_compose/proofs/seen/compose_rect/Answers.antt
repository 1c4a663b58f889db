use Rattle.std.proofs.Common.{◌∙◌, map, pos, refl, sym, arith}
use Rattle.std.proofs.lemmas.Bool.{and_parts}
use Rattle.sf_base.specs.Geometry.{covers}
use Rattle.sf_damage.specs.sf_view.Image.{opaque_black}
use Rattle.sf_compose.specs.inner.Painting.{is_in_area, Paints}
use Rattle.sf_compose.specs.Readings.{read_image, under_drawn}
use Rattle.sf_compose.proofs.BegunLemmas.{AreGivenAt-shown, Paints-slice, Repaints-area, slice_within}
use Rattle.sf_compose.proofs.FrameLemmas.{box_without_height}
use Rattle.sf_compose.proofs.PaintLemmas.{box_without_edges, box_without_sides, Paints-ended, Paints-none}
use Rattle.sf_compose.proofs.seen.compose_rect.Goals.{then-area-via-then-area, then-area-via-else-area+then-area-2}
use Rattle.sf_compose.proofs.seen.compose_rect.Goals as goal

pub returns-then-area : goal.returns-then-area
unfolding covers
returns-then-area g c =
    Repaints-area _ _ _ (is_in_area c.cut-area.result) _ (λ x y under. read_image (map g.C.Pixels.picture c.args.composition.now.contents.now) c.args.composition.now.view.now c.args.composition.now.sources.now x y) _ _ _
    (Paints-none _ _ _ _ _ (λ x y. elim c.then-area.branch [
      | then-area-via-then-area w ↦ box_without_sides c.cut-area.result.left c.cut-area.result.right c.cut-area.result.top c.cut-area.result.bottom x y (omega (arith, w.if-area.true))
      | then-area-via-else-area+then-area-2 w ↦ box_without_edges c.cut-area.result.left c.cut-area.result.right c.cut-area.result.top c.cut-area.result.bottom x y (omega (arith, w.if-area-2.true))
    ]))
    (λ x y wide low high. sym (rw (c.area_of.ensures.points x y wide low high) at (c.cut-area.ensures.points x y)))
    (λ x y under. refl)

pub loop-top-init : goal.loop-top-init
loop-top-init g c = (omega arith, omega arith, Paints-none _ _ _ _ _ (λ a b. box_without_height c.cut-area.result.left c.cut-area.result.right c.cut-area.result.top a b))

pub compose_slice-requires-clause-within : goal.compose_slice-requires-clause-within
compose_slice-requires-clause-within g c = record {
  wide = omega (arith, c.slice_from-slice.ensures.right, c.cut-area.ensures.right, c.area_of.ensures.within.wide);
  low = omega (arith, c.slice_from-slice.ensures.top, c.cut-area.ensures.top, c.area_of.ensures.within.low, c.loop-top.invariant.0);
  high = omega (arith, c.slice_from-slice.ensures.bottom, c.cut-area.ensures.bottom, c.area_of.ensures.within.high);
}

pub compose_slice-requires-clause-visible : goal.compose_slice-requires-clause-visible
unfolding covers
compose_slice-requires-clause-visible g c =
    AreGivenAt-shown (covers c.args.rect.now) (is_in_area c.slice_from-slice.result) c.args.composition.now.view.now.drawn c.args.composition.now.shows
    (λ x y t. (and_parts _ _ (sym (c.cut-area.ensures.points x y)
    ∙ slice_within c.cut-area.result c.slice_from-slice.result c.loop-top.top x y c.slice_from-slice.ensures.left c.slice_from-slice.ensures.right c.slice_from-slice.ensures.top c.loop-top.invariant.0 c.slice_from-slice.ensures.bottom t)).1)
    c.requires.visible

pub loop-top-preserved : goal.loop-top-preserved
loop-top-preserved g c = (
  omega (arith, c.slice_from-slice.ensures.more, c.loop-top.invariant.0),
  c.slice_from-slice.ensures.bottom,
  Paints-slice _ _ c.cut-area.result c.slice_from-slice.result c.loop-top.top _ _ _ _ c.slice_from-slice.ensures.left c.slice_from-slice.ensures.right c.slice_from-slice.ensures.top c.loop-top.invariant.0 c.slice_from-slice.ensures.more c.loop-top.invariant.2 c.compose_slice.ensures,
)

pub returns : goal.returns
unfolding covers read_image
returns g c =
    let painted : Paints c.args.band.width c.args.band.top (is_in_area c.cut-area.result) (λ x y under. under_drawn (map g.C.Pixels.picture c.args.composition.now.contents.now) (pos x) (pos y) opaque_black c.args.composition.now.view.now.drawn c.args.composition.now.sources.now) c.args.frame.now c.loop-top.frame
    = Paints-ended _ _ c.cut-area.result.left c.cut-area.result.right c.cut-area.result.top c.loop-top.top c.cut-area.result.bottom _ _ _ c.loop-top.invariant.2 (omega (arith, c.loop-top.invariant.1, c.loop-top-test.false)) in
    Repaints-area _ _ _ (is_in_area c.cut-area.result) _ _ _ _ _ painted
    (λ x y wide low high. sym (rw (c.area_of.ensures.points x y wide low high) at (c.cut-area.ensures.points x y)))
    (λ x y under. refl)
