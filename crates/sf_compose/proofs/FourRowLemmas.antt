-- Four rows of a crop that stands on its side.
use Rattle.std.proofs.Common.{◌≡◌, ℕ, suc, ◌+◌, ◌-◌, ◌*◌, ◌<◌, ◌≤◌, ◌∙◌, Bool, true, false, if◌then◌else◌, List, length, ap, refl, sym, subst, ◌||◌, ⊎_elim, arith, ℤ, pos}
use Rattle.std.proofs.Math.Nat.{mul-le-mul_right}
use Rattle.std.proofs.lemmas.Bool.{cases_lt}
use Rattle.std.proofs.lemmas.Bool.Decides.{nat_tests}
use Rattle.sf_base.specs.Bytes.{pixel_in}
use Rattle.sf_base.specs.declared.pixel.Rgba.{Rgba}
use Rattle.sf_compose.specs.Frames.{is_in_box}
use Rattle.sf_compose.specs.inner.Painting.{Paints}
use Rattle.sf_compose.proofs.PaintLemmas.{its_point, Paints-then}
use Rattle.sf_base.specs.Geometry.{covers, LiesWithin}
use Rattle.sf_base.specs.declared.geometry.Rect.{Rect}
use Rattle.sf_damage.specs.sf_picture.Pixels.{ShowsPicture}
use Rattle.sf_damage.specs.sf_picture.declared.picture.Picture.{Picture}
use Rattle.sf_damage.specs.sf_view.Boxes.{box_of, is_sideways}
use Rattle.sf_rows.specs.Pixels.{column_pixel, HasPixel, picked, PicksColumns}
use Rattle.sf_compose.specs.inner.Orientations.{is_back_across, pixel_shown, point_shown, step_of}
use Rattle.sf_compose.proofs.OrientationLemmas.{number_of, oriented_has, point_in, point_small, row_back, row_on, shown_pixel}

-- pixels of different rows

rows_differ : (w a x b y : ℕ) → x < w → a < b → a * w + x ≡ b * w + y → ⊥
rows_differ w a x b y in_a before is =
    let h : suc a * w ≤ b * w = mul-le-mul_right w before in
    let e : suc a * w ≡ a * w + w = omega arith in
    omega (arith, h, e, in_a, is)

same_row : (w a x b y : ℕ) → x < w → y < w → a * w + x ≡ b * w + y → a ≡ b
same_row w a x b y in_a in_b is = ⊎_elim
    (λ (before : a < b). absurd (rows_differ w a x b y in_a before is))
    (λ (after : b ≤ a). ⊎_elim
    (λ (more : b < a). absurd (rows_differ w b y a x in_b more (sym is)))
    (λ (less : a ≤ b). omega (arith, after, less))
    (cases_lt b a))
    (cases_lt a b)

-- the edges of a box that has a point
from_left : (l r t b x y : ℕ) → is_in_box l r t b x y ≡ true → l ≤ x
from_left l r t b x y h = grind (arith, nat_tests)

to_right : (l r t b x y : ℕ) → is_in_box l r t b x y ≡ true → x < r
to_right l r t b x y h = grind (arith, nat_tests)

from_top : (l r t b x y : ℕ) → is_in_box l r t b x y ≡ true → t ≤ y
from_top l r t b x y h = grind (arith, nat_tests)

to_bottom : (l r t b x y : ℕ) → is_in_box l r t b x y ≡ true → y < b
to_bottom l r t b x y h = grind (arith, nat_tests)

both_ways : (b : Bool) → b ≡ true → b ≡ false → ⊥
both_ways b p q = cc

-- where four rows stand in a band
module _ (w base left right top : ℕ) (after : base ≤ top) (narrow : right ≤ w) where
  place_of : (x y : ℕ) → left ≤ x → top ≤ y → ((top - base) * w + left) + (y - top) * w + (x - left) ≡ (y - base) * w + x
  place_of x y from low =
      let both : y - base ≡ (top - base) + (y - top) = omega arith in
      let rows : (y - base) * w ≡ ((top - base) + (y - top)) * w = ap (λ (n : ℕ). n * w) both in
      let apart : ((top - base) + (y - top)) * w ≡ (top - base) * w + (y - top) * w = omega arith in
      omega (arith, rows, apart, from)

  -- a pixel of theirs stands in their box
  is_theirs : (x y row k : ℕ) → x < w → base ≤ y → row < 4 → k < right - left → (y - base) * w + x ≡ ((top - base) * w + left) + row * w + k → is_in_box left right top (top + 4) x y ≡ true
  is_theirs x y row k wide low few within is =
      let joined : ((top - base) + row) * w ≡ (top - base) * w + row * w = omega arith in
      let places : (y - base) * w + x ≡ ((top - base) + row) * w + (left + k) = omega (arith, is, joined) in
      let rows : y - base ≡ (top - base) + row = same_row w (y - base) x ((top - base) + row) (left + k) wide (omega (arith, within, narrow)) places in
      let lines : (y - base) * w ≡ ((top - base) + row) * w = ap (λ (n : ℕ). n * w) rows in
      let columns : x ≡ left + k = omega (arith, places, lines) in
      its_point left right top (top + 4) x y (omega (arith, columns)) (omega (arith, columns, within)) (omega (arith, rows, low)) (omega (arith, rows, low, few))

  -- rows that are picked are painted
  pub Paints-four : (f : ℕ → ℕ → Rgba → Rgba) (source old new : List ℕ) (number : ℕ → ℕ → ℤ) → PicksColumns ((top - base) * w + left) w source number (right - left) old new
      → ((x y : ℕ) (under : Rgba) → left ≤ x → x < right → top ≤ y → y < top + 4 → ((j : ℕ) → pos j ≡ number (y - top) (x - left) → pixel_in new ((y - base) * w + x) ≡ pixel_in source j) → pixel_in new ((y - base) * w + x) ≡ f x y under)
      → Paints w base (is_in_box left right top (top + 4)) f old new
  Paints-four f source old new number so shown = record {
    size = so.size;
    pixels = λ x y wide low. by_test x y wide low (is_in_box left right top (top + 4) x y) refl;
  }
    where
      by_test : (x y : ℕ) → x < w → base ≤ y → (t : Bool) → is_in_box left right top (top + 4) x y ≡ t
          → pixel_in new ((y - base) * w + x) ≡ (if is_in_box left right top (top + 4) x y then f x y (pixel_in old ((y - base) * w + x)) else pixel_in old ((y - base) * w + x))
      by_test x y wide low true t =
          let from : left ≤ x = from_left left right top (top + 4) x y t in
          let to : x < right = to_right left right top (top + 4) x y t in
          let down : top ≤ y = from_top left right top (top + 4) x y t in
          let up : y < top + 4 = to_bottom left right top (top + 4) x y t in
          rw t (shown x y (pixel_in old ((y - base) * w + x)) from to down up (λ j is.
          subst (λ (n : ℕ). pixel_in new n ≡ pixel_in source j) (place_of x y from down) (so.each (y - top) (x - left) j (omega (arith, down, up)) (omega (arith, from, to)) is)))
      by_test x y wide low false t = rw t (so.rest ((y - base) * w + x) (λ row k few within is. both_ways (is_in_box left right top (top + 4) x y) (is_theirs x y row k wide low few within is) t))

-- the bytes of a band have room for four rows of it
pub four_room : (w base left right top bottom start : ℕ) → base ≤ top → left < right → right ≤ w → top + 4 ≤ bottom → start ≡ (top - base) * w → (start + left) + 3 * w + (right - left) ≤ (bottom - base) * w
four_room w base left right top bottom start low across wide high is =
    let rows : ((top - base) + 4) * w ≤ (bottom - base) * w = mul-le-mul_right w (omega (arith, low, high)) in
    let apart : ((top - base) + 4) * w ≡ (top - base) * w + 4 * w = omega arith in
    omega (arith, rows, apart, is, across, wide)

-- rows below others

box_lower : (left right top middle bottom a b : ℕ) → top ≤ middle → middle ≤ bottom → is_in_box left right top bottom a b ≡ (is_in_box left right top middle a b || is_in_box left right middle bottom a b)
box_lower left right top middle bottom a b low high = grind (arith, nat_tests)

box_apart : (left right top middle bottom a b : ℕ) → is_in_box left right top middle a b ≡ true → is_in_box left right middle bottom a b ≡ false
box_apart left right top middle bottom a b t = grind (arith, nat_tests)

pub Paints-lower : (w base left right top middle bottom : ℕ) (f : ℕ → ℕ → Rgba → Rgba) (old mid new : List ℕ) → top ≤ middle → middle ≤ bottom
    → Paints w base (is_in_box left right top middle) f old mid → Paints w base (is_in_box left right middle bottom) f mid new → Paints w base (is_in_box left right top bottom) f old new
Paints-lower w base left right top middle bottom f old mid new low high a b =
    Paints-then w base (is_in_box left right top middle) (is_in_box left right middle bottom) (is_in_box left right top bottom) f old mid new a b
    (λ x y. box_lower left right top middle bottom x y low high) (λ x y t. box_apart left right top middle bottom x y t)

-- columns beside others

box_beside : (left middle right top bottom a b : ℕ) → left ≤ middle → middle ≤ right → is_in_box left right top bottom a b ≡ (is_in_box left middle top bottom a b || is_in_box middle right top bottom a b)
box_beside left middle right top bottom a b low high = grind (arith, nat_tests)

columns_apart : (left middle right top bottom a b : ℕ) → is_in_box left middle top bottom a b ≡ true → is_in_box middle right top bottom a b ≡ false
columns_apart left middle right top bottom a b t = grind (arith, nat_tests)

pub Paints-beside : (w base left middle right top bottom : ℕ) (f : ℕ → ℕ → Rgba → Rgba) (old mid new : List ℕ) → left ≤ middle → middle ≤ right
    → Paints w base (is_in_box left middle top bottom) f old mid → Paints w base (is_in_box middle right top bottom) f mid new → Paints w base (is_in_box left right top bottom) f old new
Paints-beside w base left middle right top bottom f old mid new low high a b =
    Paints-then w base (is_in_box left middle top bottom) (is_in_box middle right top bottom) (is_in_box left right top bottom) f old mid new a b
    (λ x y. box_beside left middle right top bottom x y low high) (λ x y t. columns_apart left middle right top bottom x y t)

-- a box in a wider and higher one
pub in_box : (left right top bottom l r t b x y : ℕ) → left ≤ l → r ≤ right → top ≤ t → b ≤ bottom → is_in_box l r t b x y ≡ true → is_in_box left right top bottom x y ≡ true
in_box left right top bottom l r t b x y p q u v h = grind (arith, nat_tests)

-- what four rows of a crop on its side show: those of which the lowest pixel has a number
module _ (crop : Rect) (orient : ℕ) (place : ℤ × ℤ) (left right top width height first : ℕ) (few : orient ≤ 7) (side : is_sideways orient ≡ true) (lies : LiesWithin crop width height)
    (inside : (x y : ℕ) → left ≤ x → x < right → top ≤ y → y < top + 4 → covers (box_of crop orient place) (pos x) (pos y) ≡ true) (across : left < right)
    (is_first : first ≡ number_of width (point_shown crop orient place (pos left) (pos (if is_back_across orient then top + 3 else top)))) where
  -- the first pixel of each of them
  row_first : (row : ℕ) → row < 4 → first + (if is_back_across orient then 3 - row else row) ≡ number_of width (point_shown crop orient place (pos left) (pos (top + row)))
  row_first row h = by_back (is_back_across orient) refl is_first
    where
      by_back : (back : Bool) → is_back_across orient ≡ back → first ≡ number_of width (point_shown crop orient place (pos left) (pos (if back then top + 3 else top)))
          → first + (if back then 3 - row else row) ≡ number_of width (point_shown crop orient place (pos left) (pos (top + row)))
      by_back true on is =
          let last : top + row + (3 - row) ≡ top + 3 = omega (arith, h) in
          let step : number_of width (point_shown crop orient place (pos left) (pos (top + row))) ≡ number_of width (point_shown crop orient place (pos left) (pos (top + row + (3 - row)))) + (3 - row) =
          row_back crop orient place left (top + row) (3 - row) width height few side lies
          (inside left (top + row) (omega arith) across (omega arith) (omega (arith, h)))
          (inside left (top + row + (3 - row)) (omega arith) across (omega arith) (omega (arith, h))) on in
          let lowest : number_of width (point_shown crop orient place (pos left) (pos (top + row + (3 - row)))) ≡ first = ap (λ (n : ℕ). number_of width (point_shown crop orient place (pos left) (pos n))) last ∙ sym is in
          omega (arith, step, lowest)
      by_back false on is =
          let step : number_of width (point_shown crop orient place (pos left) (pos (top + row))) ≡ number_of width (point_shown crop orient place (pos left) (pos top)) + row =
          row_on crop orient place left top row width height few side lies
          (inside left top (omega arith) across (omega arith) (omega arith))
          (inside left (top + row) (omega arith) across (omega arith) (omega (arith, h))) on in
          omega (arith, step, is)

  -- the lowest of them is small
  pub lowest_small : width ≤ 512 → height ≤ 512 → first ≤ 262144
  lowest_small narrow low =
      let here : number_of width (point_shown crop orient place (pos left) (pos (if is_back_across orient then top + 3 else top))) ≤ 262144 = by_back (is_back_across orient) refl in
      omega (arith, is_first, here)
    where
      at_row : (row : ℕ) → row < 4 → number_of width (point_shown crop orient place (pos left) (pos (top + row))) ≤ 262144
      at_row row h = point_small width height _ (point_in crop orient place (pos left) (pos (top + row)) width height few lies (inside left (top + row) (omega arith) across (omega arith) (omega (arith, h)))) narrow low

      by_back : (back : Bool) → is_back_across orient ≡ back → number_of width (point_shown crop orient place (pos left) (pos (if is_back_across orient then top + 3 else top))) ≤ 262144
      by_back true on = rw on (at_row 3 (omega arith))
      by_back false on =
          let same : top + 0 ≡ top = omega arith in
          rw on (rw same at (at_row 0 (omega arith)))

  -- the picture has each pixel of theirs
  pub four_has : (d k : ℕ) (step : ℤ) (bytes : List ℕ) → d < 4 → k < right - left → length bytes ≡ 4 * (width * height) → step ≡ step_of orient width → HasPixel bytes (picked (first + d) step k)
  four_has d k step bytes h within size is_step = by_back (is_back_across orient) refl
    where
      has : (row : ℕ) → row < 4 → HasPixel bytes (picked (first + (if is_back_across orient then 3 - row else row)) step k)
      has row low =
          oriented_has crop orient place left k (top + row) width height (first + (if is_back_across orient then 3 - row else row)) step bytes few lies
          (inside left (top + row) (omega arith) across (omega arith) (omega (arith, low)))
          (inside (left + k) (top + row) (omega arith) (omega (arith, within)) (omega arith) (omega (arith, low)))
          size (row_first row low) is_step

      by_back : (back : Bool) → is_back_across orient ≡ back → HasPixel bytes (picked (first + d) step k)
      by_back true on =
          let row : HasPixel bytes (picked (first + (3 - (3 - d))) step k) = rw on at (has (3 - d) (omega arith)) in
          let same : first + (3 - (3 - d)) ≡ first + d = omega (arith, h) in
          subst (λ (n : ℕ). HasPixel bytes (picked n step k)) same row
      by_back false on = rw on at (has d h)

  -- and it is the one that is shown there
  pub four_shown : (picture : Picture) (x y : ℕ) (step : ℤ) (bytes : List ℕ) (pixel : Rgba) → picture.width ≡ width → picture.height ≡ height → left ≤ x → x < right → top ≤ y → y < top + 4
      → ShowsPicture picture bytes → step ≡ step_of orient width
      → ((j : ℕ) → pos j ≡ column_pixel first step (is_back_across orient) 0 (y - top) (x - left) → pixel ≡ pixel_in bytes j)
      → pixel ≡ pixel_shown picture crop orient place (pos x) (pos y)
  four_shown picture x y step bytes pixel is_width is_height from to down up shows is_step each =
      let none : x - left ≡ 0 + (x - left) = omega arith in
      let row : top + (y - top) ≡ y = omega (arith, down) in
      let column : left + (x - left) ≡ x = omega (arith, from) in
      let start : first + (if is_back_across orient then 3 - (y - top) else y - top) ≡ number_of picture.width (point_shown crop orient place (pos left) (pos y)) =
      row_first (y - top) (omega (arith, down, up))
      ∙ (ap (λ (n : ℕ). number_of width (point_shown crop orient place (pos left) (pos n))) row ∙ ap (λ (w : ℕ). number_of w (point_shown crop orient place (pos left) (pos y))) (sym is_width)) in
      let there : covers (box_of crop orient place) (pos (left + (x - left))) (pos y) ≡ true = rw column (inside x y from to down up) in
      subst (λ (n : ℕ). pixel ≡ pixel_shown picture crop orient place (pos n) (pos y)) column
      (shown_pixel picture crop orient place left (x - left) y (first + (if is_back_across orient then 3 - (y - top) else y - top)) step bytes pixel few (rw (is_width, is_height) lies)
      (inside left y (omega arith) across down up) there shows start (is_step ∙ ap (step_of orient) (sym is_width))
      (λ j is. each j (is ∙ ap (λ (n : ℕ). picked (first + (if is_back_across orient then 3 - (y - top) else y - top)) step n) none)))
