use Rattle.std.proofs.Common.{◌≡◌, ◌<◌, ◌≤◌, ◌+◌, ◌-◌, ◌*◌, ◌∙◌, ℕ, ap, arith, slice_index}
use Rattle.sf_base.specs.Bytes.{pixel_in}
use Rattle.sf_compose.proofs.CropLemmas.{both_left, both_right, crop_solid}
use Rattle.sf_compose.proofs.PaintLemmas.{its_point, Paints-rows, rows_back}
use Rattle.sf_compose.proofs.SolidLemmas.{moved_whole}
use Rattle.sf_compose.proofs.SpanLemmas.{PaintsSpan-touched}
use Rattle.sf_compose.proofs.moving.move_rows.Goals as goal

pub crop_rows-rows-requires-clause-first : goal.crop_rows-rows-requires-clause-first
crop_rows-rows-requires-clause-first c = both_left _ _ (c.requires.inside 0 c.args.area.top (its_point c.args.area.left c.args.area.right c.args.area.top c.args.area.bottom 0 c.args.area.top (omega (arith, c.requires.first)) (omega (arith, c.requires.first, c.requires.across)) (omega arith) c.requires.down))

pub crop_rows-rows-requires-clause-last : goal.crop_rows-rows-requires-clause-last
crop_rows-rows-requires-clause-last c = both_left _ _ (c.requires.inside (c.args.band.width - 1) c.args.area.top (its_point c.args.area.left c.args.area.right c.args.area.top c.args.area.bottom (c.args.band.width - 1) c.args.area.top (omega (arith, c.requires.first)) (omega (arith, c.requires.first, c.requires.last, c.requires.across)) (omega arith) c.requires.down))

pub crop_rows-rows-requires-clause-upper : goal.crop_rows-rows-requires-clause-upper
crop_rows-rows-requires-clause-upper c = both_right _ _ (c.requires.inside c.args.area.left c.args.area.top (its_point c.args.area.left c.args.area.right c.args.area.top c.args.area.bottom c.args.area.left c.args.area.top (omega arith) c.requires.across (omega arith) c.requires.down))

pub crop_rows-rows-requires-clause-lower : goal.crop_rows-rows-requires-clause-lower
crop_rows-rows-requires-clause-lower c = both_right _ _ (c.requires.inside c.args.area.left (c.args.area.bottom - 1) (its_point c.args.area.left c.args.area.right c.args.area.top c.args.area.bottom c.args.area.left (c.args.area.bottom - 1) (omega arith) c.requires.across (omega (arith, c.requires.down)) (omega (arith, c.requires.down))))

rows_apart : (w base top bottom : ℕ) → base ≤ top → top < bottom → (bottom - base) * w ≡ (top - base) * w + (bottom - top) * w
rows_apart w base top bottom first ordered =
    let both : bottom - base ≡ (top - base) + (bottom - top) = omega arith in
    let rows : (bottom - base) * w ≡ ((top - base) + (bottom - top)) * w = ap (λ (n : ℕ). n * w) both in
    let apart : ((top - base) + (bottom - top)) * w ≡ (top - base) * w + (bottom - top) * w = omega arith in
    omega (arith, rows, apart)

pub move_pixels-requires-clause-same : goal.move_pixels-requires-clause-same
move_pixels-requires-clause-same c =
    let apart = rows_apart c.args.band.width c.args.band.top c.args.area.top c.args.area.bottom c.requires.within.low c.requires.down in
    omega (arith, c.crop_rows-rows.ensures.size, c.row_start.ensures, c.row_start-2.ensures, apart)

pub returns : goal.returns
returns c = λ opaque below.
    let small : (k : ℕ) → slice_index c.move_pixels.new.frame k < 256 = λ k. (c.type_inv.frame k).fits in
    Paints-rows c.args.band.width c.args.band.top c.args.area.left c.args.area.right c.args.area.top c.args.area.bottom c.row_start.result c.row_start-2.result _ (λ i under. pixel_in c.move_pixels.new.frame i) _ _ c.requires.first c.requires.last c.row_start.ensures c.row_start-2.ensures c.requires.within.low (omega (arith, c.requires.down)) (PaintsSpan-touched _ _ _ _ _ c.move_pixels.ensures)
    (λ x y wide after before from to.
    let inside = c.requires.inside x y (its_point c.args.area.left c.args.area.right c.args.area.top c.args.area.bottom x y (omega (arith, c.requires.first)) (omega (arith, c.requires.last, wide)) after before) in
    let back = rows_back c.args.band.width c.args.band.top c.args.area.top x y c.requires.within.low after in
    let pixel = c.crop_rows-rows.ensures.pixels x y wide after before in
    let moved = c.move_pixels.ensures.inside ((y - c.args.band.top) * c.args.band.width + x) from to in
    moved_whole opaque _ _ _
    (moved ∙ (ap (λ (n : ℕ). pixel_in c.crop_rows-rows.result.now (((y - c.args.band.top) * c.args.band.width + x) - n)) c.row_start.ensures ∙ (ap (λ (n : ℕ). pixel_in c.crop_rows-rows.result.now n) back ∙ pixel)))
    (omega (arith, small (4 * ((y - c.args.band.top) * c.args.band.width + x)))) (omega (arith, small (4 * ((y - c.args.band.top) * c.args.band.width + x) + 1))) (omega (arith, small (4 * ((y - c.args.band.top) * c.args.band.width + x) + 2)))
    (crop_solid c.args.picture.now c.args.crop.rect c.args.crop.place.0 c.args.crop.place.1 y c.args.area.left c.args.area.right x c.requires.solid c.requires.crop c.requires.across
    (both_left _ _ (c.requires.inside c.args.area.left y (its_point c.args.area.left c.args.area.right c.args.area.top c.args.area.bottom c.args.area.left y (omega arith) c.requires.across after before)))
    (both_left _ _ (c.requires.inside (c.args.area.right - 1) y (its_point c.args.area.left c.args.area.right c.args.area.top c.args.area.bottom (c.args.area.right - 1) y (omega (arith, c.requires.across)) (omega (arith, c.requires.across)) after before)))
    (both_right _ _ inside) (omega (arith, c.requires.first)) (omega (arith, c.requires.last, wide))))
