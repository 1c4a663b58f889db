use Rattle.std.proofs.Common.{◌≡◌, ◌+◌, ◌-◌, ◌*◌, ◌<◌, ◌≤◌, ℕ, Bool, true, List, ℤ, pos, arith, slice_index}
use Rattle.std.proofs.lemmas.List.Edits.{length-between}
use Rattle.sf_base.specs.Geometry.{covers, LiesWithin}
use Rattle.sf_base.specs.Paint.{painted}
use Rattle.sf_base.specs.declared.geometry.Rect.{Rect}
use Rattle.sf_base.specs.declared.pixel.Rgba.{Rgba}
use Rattle.sf_damage.specs.sf_picture.Solid.{IsSolid}
use Rattle.sf_damage.specs.sf_picture.declared.picture.Picture.{Picture}
use Rattle.sf_damage.specs.sf_view.Boxes.{box_of}
use Rattle.sf_damage.specs.sf_view.Contents.{source_of}
use Rattle.sf_compose.specs.inner.Painting.{PaintsSpan}
use Rattle.sf_compose.specs.inner.Orientations.{pixel_shown}
use Rattle.sf_compose.proofs.SolidLemmas.{moved_whole}
use Rattle.sf_compose.proofs.SpanLemmas.{PaintsSpan-part}
use Rattle.sf_compose.proofs.OrientationLemmas.{pixel_solid}
use Rattle.sf_compose.proofs.oriented_moving.move_oriented_row.Goals as goal

-- what an oriented crop of a solid picture shows in a row is what is painted of it there over anything
row_moved : (picture : Picture) (old new : List ℕ) (crop : Rect) (orient : ℕ) (place : ℤ × ℤ) (start y left right : ℕ) (opaque : Bool) (below : ℕ → Rgba → Rgba) → IsSolid picture → LiesWithin crop picture.width picture.height → orient ≤ 7
    → ((x : ℕ) → left ≤ x → x < right → covers (box_of crop orient place) (pos x) (pos y) ≡ true) → ((k : ℕ) → slice_index new k < 256)
    → PaintsSpan old new (start + left) (start + right) (λ i under. pixel_shown picture crop orient place (pos (i - start)) (pos y))
    → PaintsSpan old new (start + left) (start + right) (λ i under. painted (below i under) (source_of opaque (pixel_shown picture crop orient place (pos (i - start)) (pos y))) 255)
row_moved picture old new crop orient place start y left right opaque below solid lies few inside small moved = record {
  size = moved.size;
  inside = λ i after before.
      moved_whole opaque _ _ _ (moved.inside i after before) (omega (arith, small (4 * i))) (omega (arith, small (4 * i + 1))) (omega (arith, small (4 * i + 2)))
      (pixel_solid picture crop orient place (pos (i - start)) (pos y) solid few lies (inside (i - start) (omega (arith, after)) (omega (arith, after, before))));
  below = moved.below;
  above = moved.above;
}

pub returns : goal.returns
returns c = λ opaque below.
    row_moved c.args.picture.now c.args.frame.now _ c.args.oriented.crop c.args.oriented.orient c.args.oriented.place c.args.row.start c.args.row.y c.args.row.left c.args.row.right opaque below c.requires.solid c.requires.crop c.requires.orient c.requires.inside
    (λ k. (c.type_inv.frame k).fits)
    (PaintsSpan-part _ _ (c.args.row.start + c.args.row.left) (c.args.row.start + c.args.row.right) (λ i under. pixel_shown c.args.picture.now c.args.oriented.crop c.args.oriented.orient c.args.oriented.place (pos (i - c.args.row.start)) (pos c.args.row.y)) (omega (arith, c.requires.ordered)) c.requires.room c.pick_oriented.ensures.size
    (λ k low.
    let long = length-between c.args.frame.now (4 * (c.args.row.start + c.args.row.left)) (4 * (c.args.row.start + c.args.row.right)) c.requires.room in
    let place : ((c.args.row.start + c.args.row.left) + k) - c.args.row.start ≡ c.args.row.left + k = omega arith in
    rw place (c.pick_oriented.ensures.pixels k (omega (arith, low, long)))))
