use Rattle.std.proofs.Common.{◌≡◌, ◌≤◌, ◌<◌, ◌+◌, ◌-◌, ◌*◌, ◌∙◌, ap, arith, length, ℕ, suc}
use Rattle.std.proofs.Math.Nat.{mul-le-mul_right}
use Rattle.std.proofs.lemmas.List.Edits.{length-between}
use Rattle.sf_compose.proofs.CropLemmas.{place_moved, rows_between, rows_count, rows_pixel, within_between}
use Rattle.sf_compose.proofs.SpanLemmas.{pixel_between}
use Rattle.sf_compose.proofs.crop.crop_rows.Goals as goal

pub overflow_sub-last : goal.overflow_sub-last
overflow_sub-last c =
    let moved = place_moved c.args.top (c.args.bottom - 1) c.args.crop.rect.height c.args.crop.place.1 c.args.crop.rect.y (omega (arith, c.requires.ordered)) c.requires.upper c.requires.crop.down.low in
    let far = rows_between _ _ _ _ _ _ c.args.top c.args.bottom c.crop_start-from.ensures.number c.crop_start-last.ensures.number moved c.requires.ordered in
    omega (arith, far)

pub pixels_from-requires : goal.pixels_from-requires
pixels_from-requires c =
    let moved = place_moved c.args.top (c.args.bottom - 1) c.args.crop.rect.height c.args.crop.place.1 c.args.crop.rect.y (omega (arith, c.requires.ordered)) c.requires.upper c.requires.crop.down.low in
    let far = rows_between _ _ _ _ _ _ c.args.top c.args.bottom c.crop_start-from.ensures.number c.crop_start-last.ensures.number moved c.requires.ordered in
    omega (arith, far, c.bytes.ensures.size, c.crop_start-last.ensures.room, c.requires.some)

pub returns-clause-size : goal.returns-clause-size
returns-clause-size c =
    let moved = place_moved c.args.top (c.args.bottom - 1) c.args.crop.rect.height c.args.crop.place.1 c.args.crop.rect.y (omega (arith, c.requires.ordered)) c.requires.upper c.requires.crop.down.low in
    let far = rows_between _ _ _ _ _ _ c.args.top c.args.bottom c.crop_start-from.ensures.number c.crop_start-last.ensures.number moved c.requires.ordered in
    let count = rows_count c.args.width c.args.top c.args.bottom c.requires.ordered in
    let same : ((c.args.bottom - 1) - c.args.top) * c.args.width ≡ ((c.args.bottom - 1) - c.args.top) * c.args.picture.now.width = ap (λ (n : ℕ). ((c.args.bottom - 1) - c.args.top) * n) c.requires.wide in
    let long = length-between c.bytes.result.now (4 * c.crop_start-from.result) (4 * (c.crop_start-from.result + (c.crop_start-last.result - c.crop_start-from.result + c.args.width))) (omega (arith, far, c.bytes.ensures.size, c.crop_start-last.ensures.room, c.requires.some)) in
    ap length c.pixels_from.ensures ∙ omega (arith, long, far, count, same)

row_before : (w x y z : ℕ) → x < w → y < z → y * w + x < z * w
row_before w x y z in_row before =
    let h : suc y * w ≤ z * w = mul-le-mul_right w before in
    let e : suc y * w ≡ y * w + w = omega arith in
    omega (arith, h, e)

pub returns-clause-pixels : goal.returns-clause-pixels
returns-clause-pixels c = λ x y wide after before.
    let moved = place_moved c.args.top (c.args.bottom - 1) c.args.crop.rect.height c.args.crop.place.1 c.args.crop.rect.y (omega (arith, c.requires.ordered)) c.requires.upper c.requires.crop.down.low in
    let far = rows_between _ _ _ _ _ _ c.args.top c.args.bottom c.crop_start-from.ensures.number c.crop_start-last.ensures.number moved c.requires.ordered in
    let count = rows_count c.args.width c.args.top c.args.bottom c.requires.ordered in
    let same : ((c.args.bottom - 1) - c.args.top) * c.args.width ≡ ((c.args.bottom - 1) - c.args.top) * c.args.picture.now.width = ap (λ (n : ℕ). ((c.args.bottom - 1) - c.args.top) * n) c.requires.wide in
    let low = row_before c.args.width x (y - c.args.top) (c.args.bottom - c.args.top) wide (omega (arith, after, before)) in
    rw c.pixels_from.ensures
    (pixel_between c.bytes.result.now c.crop_start-from.result (c.crop_start-from.result + (c.crop_start-last.result - c.crop_start-from.result + c.args.width)) ((y - c.args.top) * c.args.width + x) (omega (arith, low, far, count, same))
    ∙ rows_pixel c.args.picture.now c.bytes.result.now c.args.crop.rect c.args.crop.place.0 c.args.crop.place.1 c.args.width c.args.top x y c.crop_start-from.result c.requires.wide c.bytes.ensures c.requires.crop c.requires.some c.requires.first c.requires.last c.requires.upper (within_between c.args.crop.place.1 c.args.crop.rect.height c.args.top (c.args.bottom - 1) y c.requires.upper c.requires.lower after (omega (arith, before))) c.crop_start-from.ensures.number wide after)
