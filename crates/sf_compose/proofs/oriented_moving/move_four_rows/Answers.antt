use Rattle.std.proofs.Common.{◌≡◌, ◌+◌, ◌-◌, ◌*◌, ◌<◌, ◌≤◌, ◌∙◌, ℕ, Bool, true, if◌then◌else◌, ap, refl, arith, rules, subst, sym, pos, to_z, of_z, w32, slice_index}
use Rattle.sf_base.specs.Bytes.{pixel_in}
use Rattle.sf_base.specs.Geometry.{covers}
use Rattle.sf_base.specs.Paint.{painted}
use Rattle.sf_damage.specs.sf_picture.declared.picture.Picture.{Picture}
use Rattle.sf_damage.specs.sf_view.Boxes.{box_of}
use Rattle.sf_damage.specs.sf_view.Contents.{source_of}
use Rattle.sf_rows.specs.Pixels.{column_pixel, PicksColumns}
use Rattle.sf_compose.specs.Frames.{is_in_box}
use Rattle.sf_compose.specs.inner.Orientations.{is_back_across, pixel_shown, point_shown, step_of}
use Rattle.sf_compose.specs.inner.Painting.{Paints}
use Rattle.sf_compose.proofs.FourRowLemmas.{four_has, four_room, four_shown, lowest_small, Paints-four}
use Rattle.sf_compose.proofs.OrientationLemmas.{number_of, pixel_solid}
use Rattle.sf_compose.proofs.PaintLemmas.{its_point}
use Rattle.sf_compose.proofs.SolidLemmas.{moved_whole}
use Rattle.sf_compose.proofs.oriented_moving.move_four_rows.Goals as goal

pub pick_four_rows-requires-clause-low : goal.pick_four_rows-requires-clause-low
pick_four_rows-requires-clause-low c = λ k within.
    let inside : (x y : ℕ) → c.args.area.left ≤ x → x < c.args.area.right → c.args.area.top ≤ y → y < c.args.area.top + 4 → covers (box_of c.args.oriented.crop c.args.oriented.orient c.args.oriented.place) (pos x) (pos y) ≡ true =
    λ x y from to down up. c.requires.inside x y (its_point c.args.area.left c.args.area.right c.args.area.top c.args.area.bottom x y from to down (omega (arith, up, c.requires.rows))) in
    let width : c.picture.result.now.width ≡ c.args.picture.now.width = ap (λ (p : Picture). p.width) c.picture.ensures.same in
    let row : c.lowest_row-row.result ≡ (if is_back_across c.args.oriented.orient then c.args.area.top + 3 else c.args.area.top) =
    c.lowest_row-row.ensures ∙ ap (λ (t : Bool). if t then c.args.area.top + 3 else c.args.area.top) c.is_back_across-back.ensures in
    let first : c.shown_number-first.result ≡ number_of c.args.picture.now.width (point_shown c.args.oriented.crop c.args.oriented.orient c.args.oriented.place (pos c.args.area.left) (pos (if is_back_across c.args.oriented.orient then c.args.area.top + 3 else c.args.area.top))) =
    c.shown_number-first.ensures
    ∙ (ap (λ (n : ℕ). number_of n (point_shown c.args.oriented.crop c.args.oriented.orient c.args.oriented.place (pos c.args.area.left) (pos c.lowest_row-row.result))) width
    ∙ ap (λ (n : ℕ). number_of c.args.picture.now.width (point_shown c.args.oriented.crop c.args.oriented.orient c.args.oriented.place (pos c.args.area.left) (pos n))) row) in
    let fits : to_z w32 (of_z w32 c.step_of-step.result) ≡ c.step_of-step.result = search rules in
    let width_2 : c.picture-2.result.now.width ≡ c.args.picture.now.width = ap (λ (p : Picture). p.width) c.picture-2.ensures.same in
    let step : to_z w32 (of_z w32 c.step_of-step.result) ≡ step_of c.args.oriented.orient c.args.picture.now.width = fits ∙ (c.step_of-step.ensures ∙ ap (step_of c.args.oriented.orient) width_2) in
    let same : c.shown_number-first.result + 0 ≡ c.shown_number-first.result = omega arith in
    rw same at (four_has c.args.oriented.crop c.args.oriented.orient c.args.oriented.place c.args.area.left c.args.area.right c.args.area.top c.args.picture.now.width c.args.picture.now.height c.shown_number-first.result c.requires.orient c.requires.side c.requires.crop inside c.requires.across first 0 k (to_z w32 (of_z w32 c.step_of-step.result)) c.bytes.result.now (omega arith) within c.bytes.ensures.size step)

pub pick_four_rows-requires-clause-high : goal.pick_four_rows-requires-clause-high
pick_four_rows-requires-clause-high c = λ k within.
    let inside : (x y : ℕ) → c.args.area.left ≤ x → x < c.args.area.right → c.args.area.top ≤ y → y < c.args.area.top + 4 → covers (box_of c.args.oriented.crop c.args.oriented.orient c.args.oriented.place) (pos x) (pos y) ≡ true =
    λ x y from to down up. c.requires.inside x y (its_point c.args.area.left c.args.area.right c.args.area.top c.args.area.bottom x y from to down (omega (arith, up, c.requires.rows))) in
    let width : c.picture.result.now.width ≡ c.args.picture.now.width = ap (λ (p : Picture). p.width) c.picture.ensures.same in
    let row : c.lowest_row-row.result ≡ (if is_back_across c.args.oriented.orient then c.args.area.top + 3 else c.args.area.top) =
    c.lowest_row-row.ensures ∙ ap (λ (t : Bool). if t then c.args.area.top + 3 else c.args.area.top) c.is_back_across-back.ensures in
    let first : c.shown_number-first.result ≡ number_of c.args.picture.now.width (point_shown c.args.oriented.crop c.args.oriented.orient c.args.oriented.place (pos c.args.area.left) (pos (if is_back_across c.args.oriented.orient then c.args.area.top + 3 else c.args.area.top))) =
    c.shown_number-first.ensures
    ∙ (ap (λ (n : ℕ). number_of n (point_shown c.args.oriented.crop c.args.oriented.orient c.args.oriented.place (pos c.args.area.left) (pos c.lowest_row-row.result))) width
    ∙ ap (λ (n : ℕ). number_of c.args.picture.now.width (point_shown c.args.oriented.crop c.args.oriented.orient c.args.oriented.place (pos c.args.area.left) (pos n))) row) in
    let fits : to_z w32 (of_z w32 c.step_of-step.result) ≡ c.step_of-step.result = search rules in
    let width_2 : c.picture-2.result.now.width ≡ c.args.picture.now.width = ap (λ (p : Picture). p.width) c.picture-2.ensures.same in
    let step : to_z w32 (of_z w32 c.step_of-step.result) ≡ step_of c.args.oriented.orient c.args.picture.now.width = fits ∙ (c.step_of-step.ensures ∙ ap (step_of c.args.oriented.orient) width_2) in
    four_has c.args.oriented.crop c.args.oriented.orient c.args.oriented.place c.args.area.left c.args.area.right c.args.area.top c.args.picture.now.width c.args.picture.now.height c.shown_number-first.result c.requires.orient c.requires.side c.requires.crop inside c.requires.across first 3 k (to_z w32 (of_z w32 c.step_of-step.result)) c.bytes.result.now (omega arith) within c.bytes.ensures.size step

pub pick_four_rows-requires-clause-small : goal.pick_four_rows-requires-clause-small
pick_four_rows-requires-clause-small c =
    let inside : (x y : ℕ) → c.args.area.left ≤ x → x < c.args.area.right → c.args.area.top ≤ y → y < c.args.area.top + 4 → covers (box_of c.args.oriented.crop c.args.oriented.orient c.args.oriented.place) (pos x) (pos y) ≡ true =
    λ x y from to down up. c.requires.inside x y (its_point c.args.area.left c.args.area.right c.args.area.top c.args.area.bottom x y from to down (omega (arith, up, c.requires.rows))) in
    let width : c.picture.result.now.width ≡ c.args.picture.now.width = ap (λ (p : Picture). p.width) c.picture.ensures.same in
    let row : c.lowest_row-row.result ≡ (if is_back_across c.args.oriented.orient then c.args.area.top + 3 else c.args.area.top) =
    c.lowest_row-row.ensures ∙ ap (λ (t : Bool). if t then c.args.area.top + 3 else c.args.area.top) c.is_back_across-back.ensures in
    let first : c.shown_number-first.result ≡ number_of c.args.picture.now.width (point_shown c.args.oriented.crop c.args.oriented.orient c.args.oriented.place (pos c.args.area.left) (pos (if is_back_across c.args.oriented.orient then c.args.area.top + 3 else c.args.area.top))) =
    c.shown_number-first.ensures
    ∙ (ap (λ (n : ℕ). number_of n (point_shown c.args.oriented.crop c.args.oriented.orient c.args.oriented.place (pos c.args.area.left) (pos c.lowest_row-row.result))) width
    ∙ ap (λ (n : ℕ). number_of c.args.picture.now.width (point_shown c.args.oriented.crop c.args.oriented.orient c.args.oriented.place (pos c.args.area.left) (pos n))) row) in
    let height : c.picture.result.now.height ≡ c.args.picture.now.height = ap (λ (p : Picture). p.height) c.picture.ensures.same in
    let low = c.picture.ensures.size.low in
    let narrow = c.picture.ensures.size.narrow in
    let small = lowest_small c.args.oriented.crop c.args.oriented.orient c.args.oriented.place c.args.area.left c.args.area.right c.args.area.top c.args.picture.now.width c.args.picture.now.height c.shown_number-first.result c.requires.orient c.requires.side c.requires.crop inside c.requires.across first (omega (arith, width, narrow)) (omega (arith, height, low)) in
    omega (arith, small)

pub pick_four_rows-requires-clause-room : goal.pick_four_rows-requires-clause-room
pick_four_rows-requires-clause-room c =
    let room = four_room c.args.band.width c.args.band.top c.args.area.left c.args.area.right c.args.area.top c.args.band.bottom c.row_start.result c.requires.within.low c.requires.across c.requires.within.wide
    (omega (arith, c.requires.rows, c.requires.within.high)) c.row_start.ensures in
    omega (arith, room, c.requires.room.size)

pub returns : goal.returns
returns c = λ opaque below.
    let inside : (x y : ℕ) → c.args.area.left ≤ x → x < c.args.area.right → c.args.area.top ≤ y → y < c.args.area.top + 4 → covers (box_of c.args.oriented.crop c.args.oriented.orient c.args.oriented.place) (pos x) (pos y) ≡ true =
    λ x y from to down up. c.requires.inside x y (its_point c.args.area.left c.args.area.right c.args.area.top c.args.area.bottom x y from to down (omega (arith, up, c.requires.rows))) in
    let width : c.picture.result.now.width ≡ c.args.picture.now.width = ap (λ (p : Picture). p.width) c.picture.ensures.same in
    let row : c.lowest_row-row.result ≡ (if is_back_across c.args.oriented.orient then c.args.area.top + 3 else c.args.area.top) =
    c.lowest_row-row.ensures ∙ ap (λ (t : Bool). if t then c.args.area.top + 3 else c.args.area.top) c.is_back_across-back.ensures in
    let first : c.shown_number-first.result ≡ number_of c.args.picture.now.width (point_shown c.args.oriented.crop c.args.oriented.orient c.args.oriented.place (pos c.args.area.left) (pos (if is_back_across c.args.oriented.orient then c.args.area.top + 3 else c.args.area.top))) =
    c.shown_number-first.ensures
    ∙ (ap (λ (n : ℕ). number_of n (point_shown c.args.oriented.crop c.args.oriented.orient c.args.oriented.place (pos c.args.area.left) (pos c.lowest_row-row.result))) width
    ∙ ap (λ (n : ℕ). number_of c.args.picture.now.width (point_shown c.args.oriented.crop c.args.oriented.orient c.args.oriented.place (pos c.args.area.left) (pos n))) row) in
    let fits : to_z w32 (of_z w32 c.step_of-step.result) ≡ c.step_of-step.result = search rules in
    let width_2 : c.picture-2.result.now.width ≡ c.args.picture.now.width = ap (λ (p : Picture). p.width) c.picture-2.ensures.same in
    let step : to_z w32 (of_z w32 c.step_of-step.result) ≡ step_of c.args.oriented.orient c.args.picture.now.width = fits ∙ (c.step_of-step.ensures ∙ ap (step_of c.args.oriented.orient) width_2) in
    let height : c.picture.result.now.height ≡ c.args.picture.now.height = ap (λ (p : Picture). p.height) c.picture.ensures.same in
    let small : (k : ℕ) → slice_index c.pick_four_rows.new.dst k < 256 = λ k. (c.type_inv.frame k).fits in
    let picks : PicksColumns ((c.args.area.top - c.args.band.top) * c.args.band.width + c.args.area.left) c.args.band.width c.bytes.result.now (column_pixel c.shown_number-first.result (to_z w32 (of_z w32 c.step_of-step.result)) (is_back_across c.args.oriented.orient) 0) (c.args.area.right - c.args.area.left) c.args.frame.now c.pick_four_rows.new.dst =
    subst (λ (t : Bool). PicksColumns ((c.args.area.top - c.args.band.top) * c.args.band.width + c.args.area.left) c.args.band.width c.bytes.result.now (column_pixel c.shown_number-first.result (to_z w32 (of_z w32 c.step_of-step.result)) t 0) (c.args.area.right - c.args.area.left) c.args.frame.now c.pick_four_rows.new.dst) c.is_back_across-back.ensures
    (subst (λ (n : ℕ). PicksColumns (n + c.args.area.left) c.args.band.width c.bytes.result.now (column_pixel c.shown_number-first.result (to_z w32 (of_z w32 c.step_of-step.result)) c.is_back_across-back.result 0) (c.args.area.right - c.args.area.left) c.args.frame.now c.pick_four_rows.new.dst) c.row_start.ensures c.pick_four_rows.ensures) in
    let done : Paints c.args.band.width c.args.band.top (is_in_box c.args.area.left c.args.area.right c.args.area.top (c.args.area.top + 4))
    (λ x y under. painted (below x y under) (source_of opaque (pixel_shown c.args.picture.now c.args.oriented.crop c.args.oriented.orient c.args.oriented.place (pos x) (pos y))) 255)
    c.args.frame.now c.pick_four_rows.new.dst =
    Paints-four c.args.band.width c.args.band.top c.args.area.left c.args.area.right c.args.area.top c.requires.within.low c.requires.within.wide
    (λ x y under. painted (below x y under) (source_of opaque (pixel_shown c.args.picture.now c.args.oriented.crop c.args.oriented.orient c.args.oriented.place (pos x) (pos y))) 255)
    c.bytes.result.now c.args.frame.now c.pick_four_rows.new.dst _ picks
    (λ x y under from to down up each.
    moved_whole opaque _ _ _
    (four_shown c.args.oriented.crop c.args.oriented.orient c.args.oriented.place c.args.area.left c.args.area.right c.args.area.top c.args.picture.now.width c.args.picture.now.height c.shown_number-first.result c.requires.orient c.requires.side c.requires.crop inside c.requires.across first c.args.picture.now x y (to_z w32 (of_z w32 c.step_of-step.result)) c.bytes.result.now (pixel_in c.pick_four_rows.new.dst ((y - c.args.band.top) * c.args.band.width + x)) refl refl from to down up c.bytes.ensures step each)
    (omega (arith, small (4 * ((y - c.args.band.top) * c.args.band.width + x)))) (omega (arith, small (4 * ((y - c.args.band.top) * c.args.band.width + x) + 1))) (omega (arith, small (4 * ((y - c.args.band.top) * c.args.band.width + x) + 2)))
    (pixel_solid c.args.picture.now c.args.oriented.crop c.args.oriented.orient c.args.oriented.place (pos x) (pos y) c.requires.solid c.requires.orient c.requires.crop (inside x y from to down up))) in
    subst (λ (n : ℕ). Paints c.args.band.width c.args.band.top (is_in_box c.args.area.left c.args.area.right c.args.area.top n) (λ x y under. painted (below x y under) (source_of opaque (pixel_shown c.args.picture.now c.args.oriented.crop c.args.oriented.orient c.args.oriented.place (pos x) (pos y))) 255) c.args.frame.now c.pick_four_rows.new.dst) (sym c.requires.rows) done
