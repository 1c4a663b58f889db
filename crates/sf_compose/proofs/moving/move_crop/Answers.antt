use Rattle.std.proofs.Common.{◌≡◌, ◌≤◌, ◌<◌, ◌+◌, ◌-◌, ◌*◌, ◌∙◌, ◌&&◌, ℕ, ℤ, Bool, List, true, arith, refl, subst, pos, neg_ℤ, ◌+ℤ◌, ap, slice_index}
use Rattle.std.proofs.Math.Nat.{mul-le-mul_right}
use Rattle.sf_base.specs.Bytes.{pixel_in}
use Rattle.sf_base.specs.Geometry.{is_within, LiesWithin}
use Rattle.sf_base.specs.Paint.{painted}
use Rattle.sf_base.specs.declared.geometry.Rect.{Rect}
use Rattle.sf_base.specs.declared.pixel.Rgba.{Rgba}
use Rattle.sf_damage.specs.sf_picture.Pixels.{pixel_at, ShowsPicture}
use Rattle.sf_damage.specs.sf_picture.Solid.{IsSolid}
use Rattle.sf_damage.specs.sf_picture.declared.picture.Picture.{Picture}
use Rattle.sf_damage.specs.sf_view.Contents.{source_of, unsigned}
use Rattle.sf_compose.specs.Frames.{is_in_box}
use Rattle.sf_compose.specs.inner.Painting.{PaintsSpan}
use Rattle.sf_compose.proofs.CropLemmas.{both_left, both_right, row_pixel, crop_room, crop_small, crop_solid, next_row}
use Rattle.sf_compose.proofs.FrameLemmas.{box_higher, box_without_height}
use Rattle.sf_compose.proofs.PaintLemmas.{its_point, Paints-ended, Paints-none, Paints-row, Paints-then, rows_apart}
use Rattle.sf_compose.proofs.SolidLemmas.{moved_whole}
use Rattle.sf_compose.proofs.moving.move_crop.Goals as goal

pub crop_start-from-requires-clause-first : goal.crop_start-from-requires-clause-first
crop_start-from-requires-clause-first c = both_left _ _ (c.requires.inside c.args.area.left c.args.area.top (its_point c.args.area.left c.args.area.right c.args.area.top c.args.area.bottom c.args.area.left c.args.area.top (omega arith) c.requires.across (omega arith) c.requires.down))

pub crop_start-from-requires-clause-last : goal.crop_start-from-requires-clause-last
crop_start-from-requires-clause-last c = both_left _ _ (c.requires.inside (c.args.area.right - 1) c.args.area.top (its_point c.args.area.left c.args.area.right c.args.area.top c.args.area.bottom (c.args.area.right - 1) c.args.area.top (omega (arith, c.requires.across)) (omega (arith, c.requires.across)) (omega arith) c.requires.down))

pub crop_start-from-requires-clause-down : goal.crop_start-from-requires-clause-down
crop_start-from-requires-clause-down c = both_right _ _ (c.requires.inside c.args.area.left c.args.area.top (its_point c.args.area.left c.args.area.right c.args.area.top c.args.area.bottom c.args.area.left c.args.area.top (omega arith) c.requires.across (omega arith) c.requires.down))

pub loop-init : goal.loop-init
loop-init c = (λ opaque below. Paints-none _ _ _ _ _ (λ a b. box_without_height c.args.area.left c.args.area.right c.args.area.top a b), c.crop_start-from.ensures.number, ap (λ (n : ℕ). n + c.args.area.left) c.row_start.ensures)

-- the rows of a band up to one after another
row_inside : (w base y bottom right : ℕ) → base ≤ y → y < bottom → right ≤ w → (y - base) * w + right ≤ (bottom - base) * w
row_inside w base y bottom right from to narrow =
    let rows : ((y - base) + 1) * w ≤ (bottom - base) * w = mul-le-mul_right w (omega arith) in
    let next : ((y - base) + 1) * w ≡ (y - base) * w + w = omega arith in
    omega (arith, rows, next)

pub move_part-requires-clause-room : goal.move_part-requires-clause-room
move_part-requires-clause-room c =
    let size = (c.loop.invariant.0 true (λ x y under. under)).size in
    let inside = row_inside c.args.band.width c.args.band.top c.loop.counter c.args.band.bottom c.args.area.right (omega (arith, c.requires.within.low)) (omega (arith, c.requires.within.high)) c.requires.within.wide in
    omega (arith, size, inside, c.loop.invariant.2, c.requires.room.size, c.requires.across)

pub move_part-requires-clause-within : goal.move_part-requires-clause-within
move_part-requires-clause-within c =
    let shown : (x : ℕ) → c.args.area.left ≤ x → x < c.args.area.right → (is_within c.args.crop.place.0 c.args.crop.rect.width (pos x) && is_within c.args.crop.place.1 c.args.crop.rect.height (pos c.loop.counter)) ≡ true = λ x from to. c.requires.inside x c.loop.counter (its_point c.args.area.left c.args.area.right c.args.area.top c.args.area.bottom x c.loop.counter from to (omega arith) (omega arith)) in
    let room = crop_room c.args.picture.now c.args.crop.rect c.args.crop.place.0 c.args.crop.place.1 c.loop.counter c.args.area.left c.args.area.right c.loop.from c.requires.crop c.requires.across
    (both_left _ _ (shown c.args.area.left (omega arith) c.requires.across)) (both_left _ _ (shown (c.args.area.right - 1) (omega (arith, c.requires.across)) (omega (arith, c.requires.across))))
    (both_right _ _ (shown c.args.area.left (omega arith) c.requires.across)) c.loop.invariant.1 in
    omega (arith, c.bytes-pixels.ensures.size, room, c.requires.across)

pub overflow_add-from : goal.overflow_add-from
overflow_add-from c =
    let width : c.picture.result.now.width ≡ c.args.picture.now.width = ap (λ (p : Picture). p.width) c.picture.ensures.same in
    let height : c.picture.result.now.height ≡ c.args.picture.now.height = ap (λ (p : Picture). p.height) c.picture.ensures.same in
    let low = c.picture.ensures.size.low in
    let narrow = c.picture.ensures.size.narrow in
    let inside = c.requires.inside c.args.area.left c.loop.counter (its_point c.args.area.left c.args.area.right c.args.area.top c.args.area.bottom c.args.area.left c.loop.counter (omega arith) (omega arith) (omega arith) (omega arith)) in
    let small : c.loop.from ≤ 262144 = crop_small c.args.picture.now c.args.crop.rect c.args.crop.place.0 c.args.crop.place.1 c.loop.counter c.args.area.left c.loop.from c.requires.crop (omega (arith, height, low)) (omega (arith, width, narrow)) (both_left _ _ inside) (both_right _ _ inside) c.loop.invariant.1 in
    omega (arith, small, narrow)

pub overflow_add-to-in-loop : goal.overflow_add-to-in-loop
overflow_add-to-in-loop c =
    let inside = row_inside c.args.band.width c.args.band.top c.loop.counter c.args.band.bottom c.args.area.right (omega (arith, c.requires.within.low)) (omega (arith, c.requires.within.high)) c.requires.within.wide in
    omega (arith, inside, c.loop.invariant.2, c.requires.room.size, c.requires.across)

-- a row that is moved is what a crop of a solid picture paints there
row_moved : (picture : Picture) (bytes old new : List ℕ) (rect : Rect) (across down : ℤ) (y left right from to : ℕ) (opaque : Bool) (below : ℕ → Rgba → Rgba) → ShowsPicture picture bytes → IsSolid picture → LiesWithin rect picture.width picture.height
    → left < right → is_within across rect.width (pos left) ≡ true → is_within across rect.width (pos (right - 1)) ≡ true → is_within down rect.height (pos y) ≡ true
    → from ≡ unsigned ((pos y +ℤ neg_ℤ down) +ℤ rect.y) * picture.width + unsigned ((pos left +ℤ neg_ℤ across) +ℤ rect.x) → ((k : ℕ) → slice_index new k < 256)
    → PaintsSpan old new to (to + (right - left)) (λ i under. pixel_in bytes (from + (i - to)))
    → PaintsSpan old new to (to + (right - left)) (λ i under. painted (below i under) (source_of opaque (pixel_at picture (unsigned ((pos (left + (i - to)) +ℤ neg_ℤ across) +ℤ rect.x)) (unsigned ((pos y +ℤ neg_ℤ down) +ℤ rect.y)))) 255)
row_moved picture bytes old new rect across down y left right from to opaque below shows solid lies ordered first last within is small moved = record {
  size = moved.size;
  inside = λ i after before.
      moved_whole opaque _ _ _
      (moved.inside i after before ∙ (ap (λ (n : ℕ). pixel_in bytes (n + (i - to))) is
      ∙ row_pixel picture bytes rect across down y left right (unsigned ((pos left +ℤ neg_ℤ across) +ℤ rect.x)) (unsigned ((pos y +ℤ neg_ℤ down) +ℤ rect.y)) (i - to) shows lies ordered first last within refl refl (omega (arith, after, before))))
      (omega (arith, small (4 * i))) (omega (arith, small (4 * i + 1))) (omega (arith, small (4 * i + 2)))
      (crop_solid picture rect across down y left right (left + (i - to)) solid lies ordered first last within (omega arith) (omega (arith, after, before, ordered)));
  below = moved.below;
  above = moved.above;
}

-- so many pixels from one on end where the row does
span_end : (old new : List ℕ) (base left right to end : ℕ) (f : ℕ → Rgba → Rgba) → to ≡ base + left → end ≡ to + (right - left) → left < right → PaintsSpan old new to end f → PaintsSpan old new (base + left) (base + right) f
span_end old new base left right to end f is end_is ordered span =
    let last : end ≡ base + right = omega (arith, is, end_is, ordered) in
    subst (λ (n : ℕ). PaintsSpan old new (base + left) n f) last (subst (λ (n : ℕ). PaintsSpan old new n end f) is span)

place_back : (base left x to : ℕ) → to ≡ base + left → left ≤ x → left + ((base + x) - to) ≡ x
place_back base left x to is after = omega (arith, is, after)

pub loop-preserved : goal.loop-preserved
loop-preserved c =
    let y : ℕ = c.loop.counter in
    let shown : (x : ℕ) → c.args.area.left ≤ x → x < c.args.area.right → (is_within c.args.crop.place.0 c.args.crop.rect.width (pos x) && is_within c.args.crop.place.1 c.args.crop.rect.height (pos c.loop.counter)) ≡ true = λ x from to. c.requires.inside x y (its_point c.args.area.left c.args.area.right c.args.area.top c.args.area.bottom x y from to (omega arith) (omega arith)) in
    let down = both_right _ _ (shown c.args.area.left (omega arith) c.requires.across) in (
      (λ opaque below.
          Paints-then _ _ (is_in_box c.args.area.left c.args.area.right c.args.area.top y) (is_in_box c.args.area.left c.args.area.right y (y + 1)) _ _ _ _ _ (c.loop.invariant.0 opaque below)
          (Paints-row _ _ c.args.area.left c.args.area.right y ((y - c.args.band.top) * c.args.band.width) _
          (λ i under. painted (below (c.args.area.left + (i - c.loop.to)) y under) (source_of opaque (pixel_at c.args.picture.now (unsigned ((pos (c.args.area.left + (i - c.loop.to)) +ℤ neg_ℤ c.args.crop.place.0) +ℤ c.args.crop.rect.x)) (unsigned ((pos y +ℤ neg_ℤ c.args.crop.place.1) +ℤ c.args.crop.rect.y)))) 255)
          _ _ refl (omega (arith, c.requires.within.low)) c.requires.across c.requires.within.wide
          (span_end _ _ ((y - c.args.band.top) * c.args.band.width) c.args.area.left c.args.area.right c.loop.to _ _ c.loop.invariant.2 refl c.requires.across
          (row_moved c.args.picture.now c.bytes-pixels.result.now _ _ c.args.crop.rect c.args.crop.place.0 c.args.crop.place.1 y c.args.area.left c.args.area.right c.loop.from c.loop.to opaque
          (λ i under. below (c.args.area.left + (i - c.loop.to)) y under) c.bytes-pixels.ensures c.requires.solid c.requires.crop c.requires.across
          (both_left _ _ (shown c.args.area.left (omega arith) c.requires.across)) (both_left _ _ (shown (c.args.area.right - 1) (omega (arith, c.requires.across)) (omega (arith, c.requires.across)))) down c.loop.invariant.1
          (λ k. (c.type_inv.frame k).fits) c.move_part.ensures))
          (λ x under from to. ap (λ (column : ℕ). painted (below column y under) (source_of opaque (pixel_at c.args.picture.now (unsigned ((pos column +ℤ neg_ℤ c.args.crop.place.0) +ℤ c.args.crop.rect.x)) (unsigned ((pos y +ℤ neg_ℤ c.args.crop.place.1) +ℤ c.args.crop.rect.y)))) 255) (place_back ((y - c.args.band.top) * c.args.band.width) c.args.area.left x c.loop.to c.loop.invariant.2 from)))
          (λ a b. box_higher c.args.area.left c.args.area.right c.args.area.top y a b (omega arith))
          (λ a b t. rows_apart c.args.area.left c.args.area.right c.args.area.top y a b t)),
      rw (ap (λ (p : Picture). p.width) c.picture.ensures.same) (next_row _ _ _ y c.args.crop.rect.height c.args.crop.place.1 c.args.crop.rect.y down c.requires.crop.down.low c.loop.invariant.1),
      next_start c.args.band.width c.args.band.top y c.args.area.left c.loop.to (omega (arith, c.requires.within.low)) c.loop.invariant.2,
    )
  where
    next_start : (w base y left to : ℕ) → base ≤ y → to ≡ (y - base) * w + left → to + w ≡ ((y + 1) - base) * w + left
    next_start w base y left to after is =
        let next : (y + 1) - base ≡ (y - base) + 1 = omega arith in
        let row : ((y + 1) - base) * w ≡ ((y - base) + 1) * w = ap (λ (n : ℕ). n * w) next in
        let more : ((y - base) + 1) * w ≡ (y - base) * w + w = omega arith in
        omega (arith, is, row, more)

pub returns : goal.returns
returns c = λ opaque below. Paints-ended _ _ c.args.area.left c.args.area.right c.args.area.top c.loop.counter c.args.area.bottom _ _ _ (c.loop.invariant.0 opaque below) (omega arith)
