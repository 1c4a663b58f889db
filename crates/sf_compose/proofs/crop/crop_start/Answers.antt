use Rattle.std.proofs.Common.{◌≡◌, ◌-◌, ◌<◌, ap, arith, refl, pos, neg_ℤ, ◌+ℤ◌, rules}
use Rattle.std.proofs.lemmas.Int.{to_z-of_z}
use mir.Syntax.{w32}
use mir.Val.{SFits}
use Rattle.sf_damage.specs.sf_picture.declared.picture.Picture.{Picture}
use Rattle.sf_damage.specs.sf_view.Contents.{unsigned}
use Rattle.sf_compose.proofs.CropLemmas.{columns_below, place_below, row_room, row_small}
use Rattle.sf_compose.proofs.crop.crop_start.Goals as goal

pub overflow_mul-result : goal.overflow_mul-result
overflow_mul-result c =
    let across_fits : SFits w32 c.args.crop.place.0 = search rules in
    let down_fits : SFits w32 c.args.crop.place.1 = search rules in
    let x_fits : SFits w32 c.args.crop.rect.x = search rules in
    let y_fits : SFits w32 c.args.crop.rect.y = search rules in
    let is_column : c.coordinate-column.result ≡ unsigned ((pos c.args.left +ℤ neg_ℤ c.args.crop.place.0) +ℤ c.args.crop.rect.x) = simp to_z-of_z at c.coordinate-column.ensures in
    let is_row : c.coordinate-row.result ≡ unsigned ((pos c.args.y +ℤ neg_ℤ c.args.crop.place.1) +ℤ c.args.crop.rect.y) = simp to_z-of_z at c.coordinate-row.ensures in
    let width : c.picture.result.now.width ≡ c.args.picture.now.width = ap (λ (p : Picture). p.width) c.picture.ensures.same in
    let height : c.picture.result.now.height ≡ c.args.picture.now.height = ap (λ (p : Picture). p.height) c.picture.ensures.same in
    let low : c.coordinate-row.result < c.args.picture.now.height = rw is_row (place_below c.args.y c.args.crop.rect.height c.args.picture.now.height c.args.crop.place.1 c.args.crop.rect.y c.requires.down c.requires.crop.down.low c.requires.crop.down.high) in
    let small = row_small c.coordinate-row.result 0 c.picture.result.now.width c.picture.result.now.height (omega (arith, low, height)) c.picture.ensures.size.low c.picture.ensures.size.narrow (omega arith) in
    omega (arith, small)

pub overflow_add-result : goal.overflow_add-result
overflow_add-result c =
    let across_fits : SFits w32 c.args.crop.place.0 = search rules in
    let down_fits : SFits w32 c.args.crop.place.1 = search rules in
    let x_fits : SFits w32 c.args.crop.rect.x = search rules in
    let y_fits : SFits w32 c.args.crop.rect.y = search rules in
    let is_column : c.coordinate-column.result ≡ unsigned ((pos c.args.left +ℤ neg_ℤ c.args.crop.place.0) +ℤ c.args.crop.rect.x) = simp to_z-of_z at c.coordinate-column.ensures in
    let is_row : c.coordinate-row.result ≡ unsigned ((pos c.args.y +ℤ neg_ℤ c.args.crop.place.1) +ℤ c.args.crop.rect.y) = simp to_z-of_z at c.coordinate-row.ensures in
    let width : c.picture.result.now.width ≡ c.args.picture.now.width = ap (λ (p : Picture). p.width) c.picture.ensures.same in
    let height : c.picture.result.now.height ≡ c.args.picture.now.height = ap (λ (p : Picture). p.height) c.picture.ensures.same in
    let low : c.coordinate-row.result < c.args.picture.now.height = rw is_row (place_below c.args.y c.args.crop.rect.height c.args.picture.now.height c.args.crop.place.1 c.args.crop.rect.y c.requires.down c.requires.crop.down.low c.requires.crop.down.high) in
    let narrow : c.coordinate-column.result < c.args.picture.now.width = rw is_column (place_below c.args.left c.args.crop.rect.width c.args.picture.now.width c.args.crop.place.0 c.args.crop.rect.x c.requires.first c.requires.crop.across.low c.requires.crop.across.high) in
    let small = row_small c.coordinate-row.result c.coordinate-column.result c.picture.result.now.width c.picture.result.now.height (omega (arith, low, height)) c.picture.ensures.size.low c.picture.ensures.size.narrow (omega (arith, narrow, width)) in
    omega (arith, small)

pub returns-clause-number : goal.returns-clause-number
returns-clause-number c =
    let across_fits : SFits w32 c.args.crop.place.0 = search rules in
    let down_fits : SFits w32 c.args.crop.place.1 = search rules in
    let x_fits : SFits w32 c.args.crop.rect.x = search rules in
    let y_fits : SFits w32 c.args.crop.rect.y = search rules in
    let is_column : c.coordinate-column.result ≡ unsigned ((pos c.args.left +ℤ neg_ℤ c.args.crop.place.0) +ℤ c.args.crop.rect.x) = simp to_z-of_z at c.coordinate-column.ensures in
    let is_row : c.coordinate-row.result ≡ unsigned ((pos c.args.y +ℤ neg_ℤ c.args.crop.place.1) +ℤ c.args.crop.rect.y) = simp to_z-of_z at c.coordinate-row.ensures in
    let width : c.picture.result.now.width ≡ c.args.picture.now.width = ap (λ (p : Picture). p.width) c.picture.ensures.same in
    rw (width, is_column, is_row) refl

pub returns-clause-room : goal.returns-clause-room
returns-clause-room c =
    let across_fits : SFits w32 c.args.crop.place.0 = search rules in
    let down_fits : SFits w32 c.args.crop.place.1 = search rules in
    let x_fits : SFits w32 c.args.crop.rect.x = search rules in
    let y_fits : SFits w32 c.args.crop.rect.y = search rules in
    let is_column : c.coordinate-column.result ≡ unsigned ((pos c.args.left +ℤ neg_ℤ c.args.crop.place.0) +ℤ c.args.crop.rect.x) = simp to_z-of_z at c.coordinate-column.ensures in
    let is_row : c.coordinate-row.result ≡ unsigned ((pos c.args.y +ℤ neg_ℤ c.args.crop.place.1) +ℤ c.args.crop.rect.y) = simp to_z-of_z at c.coordinate-row.ensures in
    let width : c.picture.result.now.width ≡ c.args.picture.now.width = ap (λ (p : Picture). p.width) c.picture.ensures.same in
    let low : c.coordinate-row.result < c.args.picture.now.height = rw is_row (place_below c.args.y c.args.crop.rect.height c.args.picture.now.height c.args.crop.place.1 c.args.crop.rect.y c.requires.down c.requires.crop.down.low c.requires.crop.down.high) in
    let narrow = columns_below c.args.left c.args.right c.args.crop.rect.width c.args.picture.now.width c.coordinate-column.result c.args.crop.place.0 c.args.crop.rect.x c.requires.ordered c.requires.first c.requires.last c.requires.crop.across.low c.requires.crop.across.high is_column in
    rw width (row_room c.coordinate-row.result c.coordinate-column.result (c.args.right - c.args.left) c.args.picture.now.width c.args.picture.now.height low narrow)
