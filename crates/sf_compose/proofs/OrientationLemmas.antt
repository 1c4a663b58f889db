-- Points and pixels of an oriented crop.
use Rattle.std.proofs.Common.{◌≡◌, ℕ, zero, suc, ◌+◌, ◌*◌, ◌<◌, ◌≤◌, Bool, true, false, ◌&&◌, ◌||◌, if◌then◌else◌, List, length, refl, ap, ◌∙◌, sym, subst, arith, ℤ, pos, negsuc, neg_ℤ, ◌+ℤ◌, ◌*ℤ◌, ◌≤ℤ◌, ◌<ℤ◌, int_le, int_lt}
use Rattle.std.proofs.lemmas.Int.{ints}
use Rattle.std.proofs.Math.Nat.{mul-le-mul_right}
use lib.IntN.{negsuc-*ℤ-pos}
use Rattle.sf_base.specs.Geometry.{covers, is_within, IsWithin, LiesWithin}
use Rattle.sf_base.specs.declared.geometry.Rect.{Rect}
use Rattle.sf_damage.specs.sf_view.Boxes.{after_first, before_last, box_of, is_sideways, picture_point}
use Rattle.std.proofs.lemmas.Bool.Decides.{nat_tests}
use Rattle.sf_base.specs.Bytes.{pixel_in}
use Rattle.sf_base.specs.declared.pixel.Rgba.{Rgba}
use Rattle.sf_compose.specs.declared.area.Area.{Area}
use Rattle.sf_compose.specs.inner.Begun.{Spares}
use Rattle.sf_compose.specs.Frames.{is_in_box}
use Rattle.sf_compose.specs.inner.Painting.{is_in_area, Paints}
use Rattle.sf_compose.proofs.PaintLemmas.{Paints-then}
use Rattle.sf_damage.specs.sf_picture.Pixels.{ShowsPicture}
use Rattle.sf_damage.specs.sf_picture.Solid.{IsSolid}
use Rattle.sf_damage.specs.sf_picture.declared.picture.Picture.{Picture}
use Rattle.sf_rows.specs.Pixels.{HasPixel, picked}
use Rattle.sf_damage.specs.sf_view.Contents.{unsigned}
use Rattle.sf_compose.specs.inner.Orientations.{along, is_back_across, is_back_down, pixel_of_point, pixel_shown, point_shown, step_of}

-- the point of each orientation by three tests
pub oriented_point : (crop : Rect) (orient : ℕ) (u v : ℤ) → orient ≤ 7 → picture_point crop orient u v ≡ (along (is_back_across orient) crop.x crop.width (if is_sideways orient then v else u), along (is_back_down orient) crop.y crop.height (if is_sideways orient then u else v))
oriented_point crop zero u v few = refl
oriented_point crop (suc zero) u v few = refl
oriented_point crop (suc (suc zero)) u v few = refl
oriented_point crop (suc (suc (suc zero))) u v few = refl
oriented_point crop (suc (suc (suc (suc zero)))) u v few = refl
oriented_point crop (suc (suc (suc (suc (suc zero))))) u v few = refl
oriented_point crop (suc (suc (suc (suc (suc (suc zero)))))) u v few = refl
oriented_point crop (suc (suc (suc (suc (suc (suc (suc zero))))))) u v few = refl
oriented_point crop (suc (suc (suc (suc (suc (suc (suc (suc n)))))))) u v few = absurd (omega arith)

point-unsigned : (a : ℤ) → pos 0 ≤ℤ a → pos (unsigned a) ≡ a
point-unsigned (pos n) h = refl
point-unsigned (negsuc n) h = absurd (omega (arith, ints, h))

-- so far along a span of a picture is in the picture
pub along_in : (back : Bool) (start : ℤ) (extent size : ℕ) (far : ℤ) → IsWithin start extent size → pos 0 ≤ℤ far → far <ℤ pos extent → (pos (unsigned (along back start extent far)) ≡ along back start extent far) × (unsigned (along back start extent far) < size)
along_in true start extent size far lies low high =
    let e : pos (unsigned (before_last start extent far)) ≡ before_last start extent far = point-unsigned _ (omega (arith, ints, lies.low, low, high)) in
    (e, omega (arith, ints, e, lies.high, low, high))
along_in false start extent size far lies low high =
    let e : pos (unsigned (after_first start far)) ≡ after_first start far = point-unsigned _ (omega (arith, ints, lies.low, low, high)) in
    (e, omega (arith, ints, e, lies.high, low, high))

-- a coordinate in a span
and_left : (a b : Bool) → (a && b) ≡ true → a ≡ true
and_left true b h = refl
and_left false b h = h

and_last : (a b : Bool) → (a && b) ≡ true → b ≡ true
and_last true b h = h
and_last false b h = cc

within_low : (start : ℤ) (extent : ℕ) (at : ℤ) → is_within start extent at ≡ true → pos 0 ≤ℤ (at +ℤ neg_ℤ start)
within_low start extent at h =
    let p : int_le start at ≡ true = and_left _ _ h in
    omega (arith, ints, p)

within_high : (start : ℤ) (extent : ℕ) (at : ℤ) → is_within start extent at ≡ true → (at +ℤ neg_ℤ start) <ℤ pos extent
within_high start extent at h =
    let q : int_lt at (start +ℤ pos extent) ≡ true = and_last (int_le start at) _ h in
    omega (arith, ints, q)

-- a point of the box: so far across and so far down in it
pub in_box : (crop : Rect) (orient : ℕ) (place : ℤ × ℤ) (x y : ℤ) → covers (box_of crop orient place) x y ≡ true
    → (is_within place.0 (box_of crop orient place).width x ≡ true) × (is_within place.1 (box_of crop orient place).height y ≡ true)
unfolding covers
in_box crop orient place x y h = (and_left _ _ h, and_last (is_within place.0 (box_of crop orient place).width x) _ h)

-- the numbers of a point of a picture
pub record IsPoint (width height : ℕ) (point : ℤ × ℤ) : Type 0 where
  pub column : pos (unsigned point.0) ≡ point.0
  pub wide : unsigned point.0 < width
  pub row : pos (unsigned point.1) ≡ point.1
  pub high : unsigned point.1 < height

-- the point that a crop shows at a point of its box is in the picture
pub point_in : (crop : Rect) (orient : ℕ) (place : ℤ × ℤ) (x y : ℤ) (width height : ℕ) → orient ≤ 7 → LiesWithin crop width height → covers (box_of crop orient place) x y ≡ true
    → IsPoint width height (point_shown crop orient place x y)
point_in crop orient place x y width height few lies inside =
    let box = in_box crop orient place x y inside in
    subst (IsPoint width height) (sym (oriented_point crop orient (x +ℤ neg_ℤ place.0) (y +ℤ neg_ℤ place.1) few)) (by_side (is_sideways orient) refl box.0 box.1)
  where
    by_side : (side : Bool) → is_sideways orient ≡ side → is_within place.0 (if is_sideways orient then crop.height else crop.width) x ≡ true → is_within place.1 (if is_sideways orient then crop.width else crop.height) y ≡ true
        → IsPoint width height (along (is_back_across orient) crop.x crop.width (if is_sideways orient then y +ℤ neg_ℤ place.1 else x +ℤ neg_ℤ place.0), along (is_back_down orient) crop.y crop.height (if is_sideways orient then x +ℤ neg_ℤ place.0 else y +ℤ neg_ℤ place.1))
    by_side true side p q =
        let across = rw side at p in
        let down = rw side at q in
        let column = along_in (is_back_across orient) crop.x crop.width width (y +ℤ neg_ℤ place.1) lies.across (within_low place.1 crop.width y down) (within_high place.1 crop.width y down) in
        let row = along_in (is_back_down orient) crop.y crop.height height (x +ℤ neg_ℤ place.0) lies.down (within_low place.0 crop.height x across) (within_high place.0 crop.height x across) in
        rw side (record { column = column.0; wide = column.1; row = row.0; high = row.1 })
    by_side false side p q =
        let across = rw side at p in
        let down = rw side at q in
        let column = along_in (is_back_across orient) crop.x crop.width width (x +ℤ neg_ℤ place.0) lies.across (within_low place.0 crop.width x across) (within_high place.0 crop.width x across) in
        let row = along_in (is_back_down orient) crop.y crop.height height (y +ℤ neg_ℤ place.1) lies.down (within_low place.1 crop.height y down) (within_high place.1 crop.height y down) in
        rw side (record { column = column.0; wide = column.1; row = row.0; high = row.1 })

-- the number of a pixel of a picture of this width
abbrev pub number_of : ℕ → ℤ × ℤ → ℕ
number_of width point = unsigned point.1 * width + unsigned point.0

minus_times : (w k : ℕ) → neg_ℤ (pos w) *ℤ pos k ≡ neg_ℤ (pos (w * k))
minus_times zero k = let none : 0 * k ≡ 0 = omega arith in rw none refl
minus_times (suc w) k = negsuc-*ℤ-pos w k

-- so many pixels further in a row, or back; and so many rows

further : (first k : ℕ) → pos (first + k) ≡ picked first (pos 1) k
unfolding picked
further first k = let e : first + k ≡ first + 1 * k = omega arith in ap pos e

back : (last k : ℕ) → pos last ≡ picked (last + k) (neg_ℤ (pos 1)) k
unfolding picked
back last k =
    let less : pos (last + k) +ℤ neg_ℤ (pos (1 * k)) ≡ pos last = omega (arith, ints) in
    sym (ap (λ (z : ℤ). pos (last + k) +ℤ z) (minus_times 1 k) ∙ less)

rows_further : (width row column k : ℕ) → pos ((row + k) * width + column) ≡ picked (row * width + column) (pos width) k
unfolding picked
rows_further width row column k =
    let e : (row + k) * width + column ≡ (row * width + column) + width * k = omega arith in
    ap pos e

rows_back : (width row column k : ℕ) → pos (row * width + column) ≡ picked ((row + k) * width + column) (neg_ℤ (pos width)) k
unfolding picked
rows_back width row column k =
    let more : (row + k) * width + column ≡ (row * width + column) + width * k = omega arith in
    let less : pos ((row + k) * width + column) +ℤ neg_ℤ (pos (width * k)) ≡ pos (row * width + column) = omega (arith, ints, more) in
    sym (ap (λ (z : ℤ). pos ((row + k) * width + column) +ℤ z) (minus_times width k) ∙ less)

-- from one point of a picture to another in its row or its column

module _ (width height k : ℕ) (p q : ℤ × ℤ) (at : IsPoint width height p) (to : IsPoint width height q) where
  point_further : q.1 ≡ p.1 → q.0 ≡ (p.0 +ℤ pos k) → pos (number_of width q) ≡ picked (number_of width p) (pos 1) k
  point_further rows columns =
      let row : unsigned q.1 ≡ unsigned p.1 = omega (arith, ints, at.row, to.row, rows) in
      let column : unsigned q.0 ≡ unsigned p.0 + k = omega (arith, ints, at.column, to.column, columns) in
      let e : number_of width q ≡ number_of width p + k = rw (row, column) (omega arith) in
      rw e (further (number_of width p) k)

  point_back : q.1 ≡ p.1 → (q.0 +ℤ pos k) ≡ p.0 → pos (number_of width q) ≡ picked (number_of width p) (neg_ℤ (pos 1)) k
  point_back rows columns =
      let row : unsigned q.1 ≡ unsigned p.1 = omega (arith, ints, at.row, to.row, rows) in
      let column : unsigned p.0 ≡ unsigned q.0 + k = omega (arith, ints, at.column, to.column, columns) in
      let e : number_of width p ≡ number_of width q + k = rw (row, column) (omega arith) in
      rw e (back (number_of width q) k)

  point_lower : q.0 ≡ p.0 → q.1 ≡ (p.1 +ℤ pos k) → pos (number_of width q) ≡ picked (number_of width p) (pos width) k
  point_lower columns rows =
      let row : unsigned q.1 ≡ unsigned p.1 + k = omega (arith, ints, at.row, to.row, rows) in
      let column : unsigned q.0 ≡ unsigned p.0 = omega (arith, ints, at.column, to.column, columns) in
      rw (row, column) (rows_further width (unsigned p.1) (unsigned p.0) k)

  point_higher : q.0 ≡ p.0 → (q.1 +ℤ pos k) ≡ p.1 → pos (number_of width q) ≡ picked (number_of width p) (neg_ℤ (pos width)) k
  point_higher columns rows =
      let row : unsigned p.1 ≡ unsigned q.1 + k = omega (arith, ints, at.row, to.row, rows) in
      let column : unsigned q.0 ≡ unsigned p.0 = omega (arith, ints, at.column, to.column, columns) in
      rw (row, column) (rows_back width (unsigned q.1) (unsigned p.0) k)

-- two points of a picture that stand so far in a box, the second so many columns further right than the first
pub steps_between : (crop : Rect) (orient : ℕ) (u w v : ℤ) (width height k : ℕ) (p q : ℤ × ℤ) → IsPoint width height p → IsPoint width height q → w ≡ (u +ℤ pos k)
    → p ≡ (along (is_back_across orient) crop.x crop.width (if is_sideways orient then v else u), along (is_back_down orient) crop.y crop.height (if is_sideways orient then u else v))
    → q ≡ (along (is_back_across orient) crop.x crop.width (if is_sideways orient then v else w), along (is_back_down orient) crop.y crop.height (if is_sideways orient then w else v))
    → pos (number_of width q) ≡ picked (number_of width p) (step_of orient width) k
steps_between crop orient u w v width height k p q at to more e f = by_tests (is_sideways orient) (is_back_down orient) (is_back_across orient) refl refl refl (ap (λ (z : ℤ × ℤ). z.0) e) (ap (λ (z : ℤ × ℤ). z.1) e) (ap (λ (z : ℤ × ℤ). z.0) f) (ap (λ (z : ℤ × ℤ). z.1) f)
  where
    by_tests : (side down across : Bool) → is_sideways orient ≡ side → is_back_down orient ≡ down → is_back_across orient ≡ across
        → p.0 ≡ along (is_back_across orient) crop.x crop.width (if is_sideways orient then v else u) → p.1 ≡ along (is_back_down orient) crop.y crop.height (if is_sideways orient then u else v)
        → q.0 ≡ along (is_back_across orient) crop.x crop.width (if is_sideways orient then v else w) → q.1 ≡ along (is_back_down orient) crop.y crop.height (if is_sideways orient then w else v)
        → pos (number_of width q) ≡ picked (number_of width p) (step_of orient width) k
    by_tests true true across s d a e0 e1 f0 f1 =
        let p0 = rw s at e0 in
        let q0 = rw s at f0 in
        let p1 : p.1 ≡ before_last crop.y crop.height u = rw (s, d) at e1 in
        let q1 : q.1 ≡ before_last crop.y crop.height w = rw (s, d) at f1 in
        rw (s, d) (point_higher width height k p q at to (q0 ∙ sym p0) (omega (arith, ints, p1, q1, more)))
    by_tests true false across s d a e0 e1 f0 f1 =
        let p0 = rw s at e0 in
        let q0 = rw s at f0 in
        let p1 : p.1 ≡ after_first crop.y u = rw (s, d) at e1 in
        let q1 : q.1 ≡ after_first crop.y w = rw (s, d) at f1 in
        rw (s, d) (point_lower width height k p q at to (q0 ∙ sym p0) (omega (arith, ints, p1, q1, more)))
    by_tests false down true s d a e0 e1 f0 f1 =
        let p1 = rw s at e1 in
        let q1 = rw s at f1 in
        let p0 : p.0 ≡ before_last crop.x crop.width u = rw (s, a) at e0 in
        let q0 : q.0 ≡ before_last crop.x crop.width w = rw (s, a) at f0 in
        rw (s, a) (point_back width height k p q at to (q1 ∙ sym p1) (omega (arith, ints, p0, q0, more)))
    by_tests false down false s d a e0 e1 f0 f1 =
        let p1 = rw s at e1 in
        let q1 = rw s at f1 in
        let p0 : p.0 ≡ after_first crop.x u = rw (s, a) at e0 in
        let q0 : q.0 ≡ after_first crop.x w = rw (s, a) at f0 in
        rw (s, a) (point_further width height k p q at to (q1 ∙ sym p1) (omega (arith, ints, p0, q0, more)))

-- one column further right in the box is so many pixels further in the picture
pub steps_from : (crop : Rect) (orient : ℕ) (place : ℤ × ℤ) (left k y width height : ℕ) → orient ≤ 7 → LiesWithin crop width height
    → covers (box_of crop orient place) (pos left) (pos y) ≡ true → covers (box_of crop orient place) (pos (left + k)) (pos y) ≡ true
    → pos (number_of width (point_shown crop orient place (pos (left + k)) (pos y))) ≡ picked (number_of width (point_shown crop orient place (pos left) (pos y))) (step_of orient width) k
steps_from crop orient place left k y width height few lies here there =
    steps_between crop orient (pos left +ℤ neg_ℤ place.0) (pos (left + k) +ℤ neg_ℤ place.0) (pos y +ℤ neg_ℤ place.1) width height k _ _
    (point_in crop orient place (pos left) (pos y) width height few lies here)
    (point_in crop orient place (pos (left + k)) (pos y) width height few lies there)
    (omega (arith, ints))
    (oriented_point crop orient _ _ few)
    (oriented_point crop orient _ _ few)

-- one row further down in the box of a crop on its side is one pixel on in the picture, or back

module _ (crop : Rect) (orient : ℕ) (place : ℤ × ℤ) (x y k width height : ℕ) (few : orient ≤ 7) (side : is_sideways orient ≡ true) (lies : LiesWithin crop width height)
    (here : covers (box_of crop orient place) (pos x) (pos y) ≡ true) (there : covers (box_of crop orient place) (pos x) (pos (y + k)) ≡ true) where
  abbrev upper : ℤ × ℤ
  upper = point_shown crop orient place (pos x) (pos y)

  abbrev lower : ℤ × ℤ
  lower = point_shown crop orient place (pos x) (pos (y + k))

  upper_in : IsPoint width height upper
  upper_in = point_in crop orient place (pos x) (pos y) width height few lies here

  lower_in : IsPoint width height lower
  lower_in = point_in crop orient place (pos x) (pos (y + k)) width height few lies there

  same_line : unsigned upper.1 ≡ unsigned lower.1
  same_line =
      let p : upper.1 ≡ along (is_back_down orient) crop.y crop.height (pos x +ℤ neg_ℤ place.0) = rw side at (ap (λ (z : ℤ × ℤ). z.1) (oriented_point crop orient (pos x +ℤ neg_ℤ place.0) (pos y +ℤ neg_ℤ place.1) few)) in
      let q : lower.1 ≡ along (is_back_down orient) crop.y crop.height (pos x +ℤ neg_ℤ place.0) = rw side at (ap (λ (z : ℤ × ℤ). z.1) (oriented_point crop orient (pos x +ℤ neg_ℤ place.0) (pos (y + k) +ℤ neg_ℤ place.1) few)) in
      ap unsigned (p ∙ sym q)

  pub row_on : is_back_across orient ≡ false → number_of width lower ≡ number_of width upper + k
  row_on on =
      let p : upper.0 ≡ after_first crop.x (pos y +ℤ neg_ℤ place.1) = rw (side, on) at (ap (λ (z : ℤ × ℤ). z.0) (oriented_point crop orient (pos x +ℤ neg_ℤ place.0) (pos y +ℤ neg_ℤ place.1) few)) in
      let q : lower.0 ≡ after_first crop.x (pos (y + k) +ℤ neg_ℤ place.1) = rw (side, on) at (ap (λ (z : ℤ × ℤ). z.0) (oriented_point crop orient (pos x +ℤ neg_ℤ place.0) (pos (y + k) +ℤ neg_ℤ place.1) few)) in
      let at = upper_in.column in
      let to = lower_in.column in
      let columns : unsigned lower.0 ≡ unsigned upper.0 + k = omega (arith, ints, p, q, at, to) in
      let rows : unsigned lower.1 * width ≡ unsigned upper.1 * width = ap (λ (n : ℕ). n * width) (sym same_line) in
      omega (arith, columns, rows)

  pub row_back : is_back_across orient ≡ true → number_of width upper ≡ number_of width lower + k
  row_back on =
      let p : upper.0 ≡ before_last crop.x crop.width (pos y +ℤ neg_ℤ place.1) = rw (side, on) at (ap (λ (z : ℤ × ℤ). z.0) (oriented_point crop orient (pos x +ℤ neg_ℤ place.0) (pos y +ℤ neg_ℤ place.1) few)) in
      let q : lower.0 ≡ before_last crop.x crop.width (pos (y + k) +ℤ neg_ℤ place.1) = rw (side, on) at (ap (λ (z : ℤ × ℤ). z.0) (oriented_point crop orient (pos x +ℤ neg_ℤ place.0) (pos (y + k) +ℤ neg_ℤ place.1) few)) in
      let at = upper_in.column in
      let to = lower_in.column in
      let columns : unsigned upper.0 ≡ unsigned lower.0 + k = omega (arith, ints, p, q, at, to) in
      let rows : unsigned lower.1 * width ≡ unsigned upper.1 * width = ap (λ (n : ℕ). n * width) (sym same_line) in
      omega (arith, columns, rows)

-- the number of a point of a picture is small
pub point_small : (width height : ℕ) (p : ℤ × ℤ) → IsPoint width height p → width ≤ 512 → height ≤ 512 → number_of width p ≤ 262144
point_small width height p at narrow low =
    let wide = at.wide in
    let high = at.high in
    let above : suc (unsigned p.1) * width ≤ 512 * width = mul-le-mul_right width (omega (arith, high, low)) in
    let next : suc (unsigned p.1) * width ≡ unsigned p.1 * width + width = omega arith in
    omega (arith, above, next, wide, narrow)

-- the number of a point is below that of the picture's pixels
pub number_low : (width height : ℕ) (p : ℤ × ℤ) → IsPoint width height p → number_of width p < width * height
number_low width height p at =
    let above : suc (unsigned p.1) * width ≤ height * width = mul-le-mul_right width at.high in
    let next : suc (unsigned p.1) * width ≡ unsigned p.1 * width + width = omega arith in
    let oriented : height * width ≡ width * height = omega arith in
    let narrow = at.wide in
    omega (arith, above, next, oriented, narrow)

-- what the code finds

pub across_in : (crop : Rect) (orient : ℕ) (place : ℤ × ℤ) (x y : ℤ) (side : Bool) → is_sideways orient ≡ side → covers (box_of crop orient place) x y ≡ true → is_within place.0 (if side then crop.height else crop.width) x ≡ true
across_in crop orient place x y side s inside = rw s at (in_box crop orient place x y inside).0

pub down_in : (crop : Rect) (orient : ℕ) (place : ℤ × ℤ) (x y : ℤ) (side : Bool) → is_sideways orient ≡ side → covers (box_of crop orient place) x y ≡ true → is_within place.1 (if side then crop.width else crop.height) y ≡ true
down_in crop orient place x y side s inside = rw s at (in_box crop orient place x y inside).1

column_by : (crop : Rect) (orient : ℕ) (u v : ℤ) (side back : Bool) (far : ℕ) (p : ℤ × ℤ) → p ≡ (along (is_back_across orient) crop.x crop.width (if is_sideways orient then v else u), along (is_back_down orient) crop.y crop.height (if is_sideways orient then u else v))
    → is_sideways orient ≡ side → back ≡ is_back_across orient → pos far ≡ (if side then v else u) → along back crop.x crop.width (pos far) ≡ p.0
column_by crop orient u v side back far p e s b f =
    let column = ap (λ (z : ℤ × ℤ). z.0) e in
    let there : p.0 ≡ along (is_back_across orient) crop.x crop.width (if side then v else u) = rw s at column in
    sym (there ∙ (ap (λ (t : Bool). along t crop.x crop.width (if side then v else u)) (sym b) ∙ ap (along back crop.x crop.width) (sym f)))

row_by : (crop : Rect) (orient : ℕ) (u v : ℤ) (side back : Bool) (far : ℕ) (p : ℤ × ℤ) → p ≡ (along (is_back_across orient) crop.x crop.width (if is_sideways orient then v else u), along (is_back_down orient) crop.y crop.height (if is_sideways orient then u else v))
    → is_sideways orient ≡ side → back ≡ is_back_down orient → pos far ≡ (if side then u else v) → along back crop.y crop.height (pos far) ≡ p.1
row_by crop orient u v side back far p e s b f =
    let row = ap (λ (z : ℤ × ℤ). z.1) e in
    let there : p.1 ≡ along (is_back_down orient) crop.y crop.height (if side then u else v) = rw s at row in
    sym (there ∙ (ap (λ (t : Bool). along t crop.y crop.height (if side then u else v)) (sym b) ∙ ap (along back crop.y crop.height) (sym f)))

pub column_shown : (crop : Rect) (orient : ℕ) (place : ℤ × ℤ) (x y : ℤ) (side back : Bool) (far : ℕ) → orient ≤ 7 → is_sideways orient ≡ side → back ≡ is_back_across orient
    → pos far ≡ (if side then y +ℤ neg_ℤ place.1 else x +ℤ neg_ℤ place.0) → along back crop.x crop.width (pos far) ≡ (point_shown crop orient place x y).0
column_shown crop orient place x y side back far few s b f = column_by crop orient (x +ℤ neg_ℤ place.0) (y +ℤ neg_ℤ place.1) side back far _ (oriented_point crop orient (x +ℤ neg_ℤ place.0) (y +ℤ neg_ℤ place.1) few) s b f

pub row_shown : (crop : Rect) (orient : ℕ) (place : ℤ × ℤ) (x y : ℤ) (side back : Bool) (far : ℕ) → orient ≤ 7 → is_sideways orient ≡ side → back ≡ is_back_down orient
    → pos far ≡ (if side then x +ℤ neg_ℤ place.0 else y +ℤ neg_ℤ place.1) → along back crop.y crop.height (pos far) ≡ (point_shown crop orient place x y).1
row_shown crop orient place x y side back far few s b f = row_by crop orient (x +ℤ neg_ℤ place.0) (y +ℤ neg_ℤ place.1) side back far _ (oriented_point crop orient (x +ℤ neg_ℤ place.0) (y +ℤ neg_ℤ place.1) few) s b f

same_number : (n m : ℕ) (z : ℤ) → pos n ≡ z → pos m ≡ z → n ≡ m
same_number n m z e f = cc

small_by : (width height column row : ℕ) (p : ℤ × ℤ) → IsPoint width height p → pos column ≡ p.0 → pos row ≡ p.1 → width ≤ 512 → height ≤ 512 → row * width + column ≤ 262144
small_by width height column row p at is_column is_row narrow low =
    let c : column ≡ unsigned p.0 = same_number column (unsigned p.0) p.0 is_column at.column in
    let r : row ≡ unsigned p.1 = same_number row (unsigned p.1) p.1 is_row at.row in
    let wide = at.wide in
    let high = at.high in
    let above : suc row * width ≤ 512 * width = mul-le-mul_right width (omega (arith, r, high, low)) in
    let next : suc row * width ≡ row * width + width = omega arith in
    omega (arith, above, next, c, wide, narrow)

-- the number of a shown pixel is small
pub number_small : (crop : Rect) (orient : ℕ) (place : ℤ × ℤ) (x y : ℤ) (width height column row : ℕ) → orient ≤ 7 → LiesWithin crop width height → covers (box_of crop orient place) x y ≡ true
    → pos column ≡ (point_shown crop orient place x y).0 → pos row ≡ (point_shown crop orient place x y).1 → width ≤ 512 → height ≤ 512 → row * width + column ≤ 262144
number_small crop orient place x y width height column row few lies inside c r narrow low = small_by width height column row _ (point_in crop orient place x y width height few lies inside) c r narrow low

number_by : (width column row : ℕ) (height : ℕ) (p : ℤ × ℤ) → IsPoint width height p → pos column ≡ p.0 → pos row ≡ p.1 → row * width + column ≡ number_of width p
number_by width column row height p at is_column is_row =
    let c : column ≡ unsigned p.0 = same_number column (unsigned p.0) p.0 is_column at.column in
    let r : row ≡ unsigned p.1 = same_number row (unsigned p.1) p.1 is_row at.row in
    rw (c, r) refl

pub number_is : (crop : Rect) (orient : ℕ) (place : ℤ × ℤ) (x y : ℤ) (width height column row : ℕ) → orient ≤ 7 → LiesWithin crop width height → covers (box_of crop orient place) x y ≡ true
    → pos column ≡ (point_shown crop orient place x y).0 → pos row ≡ (point_shown crop orient place x y).1 → row * width + column ≡ number_of width (point_shown crop orient place x y)
number_is crop orient place x y width height column row few lies inside c r = number_by width column row height _ (point_in crop orient place x y width height few lies inside) c r

low_pixel : (bytes : List ℕ) (n size : ℕ) → length bytes ≡ 4 * size → n < size → HasPixel bytes (pos n)
low_pixel bytes n size is low = record { low = omega (arith, ints); high = omega (arith, ints, is, low) }

-- the picture has the pixel of each column
pub oriented_has : (crop : Rect) (orient : ℕ) (place : ℤ × ℤ) (left k y width height first : ℕ) (step : ℤ) (bytes : List ℕ) → orient ≤ 7 → LiesWithin crop width height
    → covers (box_of crop orient place) (pos left) (pos y) ≡ true → covers (box_of crop orient place) (pos (left + k)) (pos y) ≡ true → length bytes ≡ 4 * (width * height)
    → first ≡ number_of width (point_shown crop orient place (pos left) (pos y)) → step ≡ step_of orient width → HasPixel bytes (picked first step k)
oriented_has crop orient place left k y width height first step bytes few lies here there size is_first is_step =
    let q = point_in crop orient place (pos (left + k)) (pos y) width height few lies there in
    let has : HasPixel bytes (pos (number_of width (point_shown crop orient place (pos (left + k)) (pos y)))) = low_pixel bytes _ (width * height) size (number_low width height _ q) in
    subst (λ (n : ℕ). HasPixel bytes (picked n step k)) (sym is_first)
    (subst (λ (z : ℤ). HasPixel bytes (picked (number_of width (point_shown crop orient place (pos left) (pos y))) z k)) (sym is_step)
    (subst (HasPixel bytes) (steps_from crop orient place left k y width height few lies here there) has))

pixel_by : (picture : Picture) (bytes : List ℕ) (q : ℤ × ℤ) → ShowsPicture picture bytes → IsPoint picture.width picture.height q → pixel_in bytes (number_of picture.width q) ≡ pixel_of_point picture q
pixel_by picture bytes q shows at = shows.pixels (unsigned q.0) (unsigned q.1) at.wide at.high

-- and the pixel that is picked there is the one that is shown
pub shown_pixel : (picture : Picture) (crop : Rect) (orient : ℕ) (place : ℤ × ℤ) (left k y first : ℕ) (step : ℤ) (bytes : List ℕ) (pixel : Rgba) → orient ≤ 7 → LiesWithin crop picture.width picture.height
    → covers (box_of crop orient place) (pos left) (pos y) ≡ true → covers (box_of crop orient place) (pos (left + k)) (pos y) ≡ true → ShowsPicture picture bytes
    → first ≡ number_of picture.width (point_shown crop orient place (pos left) (pos y)) → step ≡ step_of orient picture.width
    → ((j : ℕ) → pos j ≡ picked first step k → pixel ≡ pixel_in bytes j)
    → pixel ≡ pixel_shown picture crop orient place (pos (left + k)) (pos y)
shown_pixel picture crop orient place left k y first step bytes pixel few lies here there shows is_first is_step each =
    let steps = steps_from crop orient place left k y picture.width picture.height few lies here there in
    let one : picked (number_of picture.width (point_shown crop orient place (pos left) (pos y))) (step_of orient picture.width) k ≡ picked first (step_of orient picture.width) k = ap (λ (n : ℕ). picked n (step_of orient picture.width) k) (sym is_first) in
    let other : picked first (step_of orient picture.width) k ≡ picked first step k = ap (λ (z : ℤ). picked first z k) (sym is_step) in
    each _ (steps ∙ (one ∙ other))
    ∙ pixel_by picture bytes _ shows (point_in crop orient place (pos (left + k)) (pos y) picture.width picture.height few lies there)

pub oriented_pixel : (picture : Picture) (crop : Rect) (orient : ℕ) (place : ℤ × ℤ) (left k y first : ℕ) (step : ℤ) (bytes new : List ℕ) → orient ≤ 7 → LiesWithin crop picture.width picture.height
    → covers (box_of crop orient place) (pos left) (pos y) ≡ true → covers (box_of crop orient place) (pos (left + k)) (pos y) ≡ true → ShowsPicture picture bytes
    → first ≡ number_of picture.width (point_shown crop orient place (pos left) (pos y)) → step ≡ step_of orient picture.width
    → ((j : ℕ) → pos j ≡ picked first step k → pixel_in new k ≡ pixel_in bytes j)
    → pixel_in new k ≡ pixel_shown picture crop orient place (pos (left + k)) (pos y)
oriented_pixel picture crop orient place left k y first step bytes new few lies here there shows is_first is_step each =
    shown_pixel picture crop orient place left k y first step bytes (pixel_in new k) few lies here there shows is_first is_step each

-- each pixel that an oriented crop of a solid picture shows is solid
pub pixel_solid : (picture : Picture) (crop : Rect) (orient : ℕ) (place : ℤ × ℤ) (x y : ℤ) → IsSolid picture → orient ≤ 7 → LiesWithin crop picture.width picture.height → covers (box_of crop orient place) x y ≡ true → (pixel_shown picture crop orient place x y).a ≡ 255
pixel_solid picture crop orient place x y solid few lies inside =
    let at = point_in crop orient place x y picture.width picture.height few lies inside in
    solid.alphas _ _ at.wide at.high

-- columns of an area, some after others

block_wider : (left middle right top bottom a b : ℕ) → left ≤ middle → middle < right → is_in_box left right top bottom a b ≡ (is_in_box left middle top bottom a b || is_in_box middle right top bottom a b)
block_wider left middle right top bottom a b low more = grind (arith, nat_tests)

block_apart : (left middle right top bottom a b : ℕ) → is_in_box left middle top bottom a b ≡ true → is_in_box middle right top bottom a b ≡ false
block_apart left middle right top bottom a b t = grind (arith, nat_tests)

in_wider : (left right l r top bottom a b : ℕ) → left ≤ l → r ≤ right → is_in_box l r top bottom a b ≡ true → is_in_box left right top bottom a b ≡ true
in_wider left right l r top bottom a b low high t = grind (arith, nat_tests)

pub block_point : (area block : Area) (x y : ℕ) → area.left ≤ block.left → block.right ≤ area.right → block.top ≡ area.top → block.bottom ≡ area.bottom → is_in_area block x y ≡ true → is_in_area area x y ≡ true
block_point area block x y low high is_top is_bottom t = in_wider area.left area.right block.left block.right area.top area.bottom x y low high (rw (is_top, is_bottom) at t)

pub Paints-block : (w base : ℕ) (area block : Area) (left : ℕ) (f : ℕ → ℕ → Rgba → Rgba) (old mid new : List ℕ) → block.left ≡ left → block.top ≡ area.top → block.bottom ≡ area.bottom → area.left ≤ left → left < block.right → Paints w base (is_in_box area.left left area.top area.bottom) f old mid → Paints w base (is_in_area block) f mid new → Paints w base (is_in_box area.left block.right area.top area.bottom) f old new
Paints-block w base area block left f old mid new is_left is_top is_bottom low more a b =
    Paints-then w base (is_in_box area.left left area.top area.bottom) (is_in_area block) (is_in_box area.left block.right area.top area.bottom) f old mid new a b
    (λ x y. rw (is_left, is_top, is_bottom) (block_wider area.left left block.right area.top area.bottom x y low more))
    (λ x y t. rw (is_left, is_top, is_bottom) (block_apart area.left left block.right area.top area.bottom x y t))

-- a loop over the columns of an area that ended
pub Paints-sides : (w base left at right top bottom : ℕ) (f : ℕ → ℕ → Rgba → Rgba) (old new : List ℕ) → Paints w base (is_in_box left at top bottom) f old new → at ≡ right → Paints w base (is_in_box left right top bottom) f old new
Paints-sides w base left at right top bottom f old new a ended = subst (λ (n : ℕ). Paints w base (is_in_box left n top bottom) f old new) ended a

-- what lies beside an area lies beside each block of it

pub beside_sides : (left right top bottom at a b : ℕ) → at ≤ right → is_in_box left right top bottom a b ≡ false → is_in_box left at top bottom a b ≡ false
beside_sides left right top bottom at a b h t = grind (arith, nat_tests)

beside_narrower : (left right l r top bottom a b : ℕ) → left ≤ l → r ≤ right → is_in_box left right top bottom a b ≡ false → is_in_box l r top bottom a b ≡ false
beside_narrower left right l r top bottom a b low high t = grind (arith, nat_tests)

pub beside_block : (area block : Area) (x y : ℕ) → area.left ≤ block.left → block.right ≤ area.right → block.top ≡ area.top → block.bottom ≡ area.bottom → is_in_area area x y ≡ false → is_in_area block x y ≡ false
beside_block area block x y low high is_top is_bottom t = rw (is_top, is_bottom) (beside_narrower area.left area.right block.left block.right area.top area.bottom x y low high t)

pub Spares-wider : (w base : ℕ) (p q : ℕ → ℕ → Bool) (old new : List ℕ) → Spares w base p old new → ((x y : ℕ) → q x y ≡ false → p x y ≡ false) → Spares w base q old new
Spares-wider w base p q old new a part = record { size = a.size; rest = λ x y wide low t. a.rest x y wide low (part x y t) }
