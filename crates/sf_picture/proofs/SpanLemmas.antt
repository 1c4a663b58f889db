-- Filling a row after the rows above it, a fill after the fills before it, and bytes that need no filling.
use Rattle.std.proofs.Common.{◌≡◌, ℕ, ◌+◌, ◌*◌, ◌<◌, ◌≤◌, pos, ◌∙◌, inl, inr, List, ℤ, [], ◌∷◌, arith, true, false, if◌then◌else◌, nat_le, nat_lt, ◌&&◌, suc, Bool, ap, refl, find, reverse, take, length, get_or, slice_index, Option, Some, replicate, sym}
use Rattle.std.proofs.Math.ListN.{get_or-eq_default}
use Rattle.std.proofs.Math.Nat.{mul-le-mul_right}
use Rattle.std.proofs.lemmas.Bool.{cases_lt}
use Rattle.std.proofs.lemmas.Bool.Decides.{nat_tests}
use Rattle.sf_base.specs.declared.geometry.Rect.{Rect}
use Rattle.sf_base.specs.declared.pixel.Rgba.{Rgba}
use Rattle.sf_base.specs.Bytes.{FillsSpan, pixel_in}
use Rattle.sf_base.specs.Formats.{seen_as}
use Rattle.sf_base.specs.Geometry.{covers, is_within}
use Rattle.sf_base.specs.declared.format.Format.{Format}
use Rattle.sf_base.specs.declared.format.Format.TheVariants as format
use Rattle.sf_picture.specs.Pixels.{ShowsPicture, colour_at, colour_of, transparent}
use Rattle.sf_picture.specs.declared.picture.Picture.{Picture}
use Rattle.sf_picture.specs.declared.fill.Fill.{Fill}
use Rattle.std.proofs.lemmas.List.{get_or-replicate, length-replicate, take_more, reverse-append}
use Rattle.sf_picture.specs.inner.Spans.{CoversAll, PaintsRows, PaintsFill, ShowsFills, ShowsNothing}

-- each byte of so many that are 0, and each beyond them, reads as 0
zero_byte : (n i : ℕ) → slice_index (replicate n 0) i ≡ 0
zero_byte n i = elim (cases_lt i n) [
  | inl inside ↦ get_or-replicate n i 0 0 inside
  | inr beyond ↦
      let zeros : List ℕ = replicate n 0 in
      let long : length zeros ≡ n = length-replicate n 0 in
      get_or-eq_default zeros 0 (omega (arith, long, beyond))
]

zeros : (n i : ℕ) → pixel_in (replicate n 0) i ≡ transparent
zeros n i = rw (zero_byte n (4 * i), zero_byte n (4 * i + 1), zero_byte n (4 * i + 2), zero_byte n (4 * i + 3)) refl

-- a row's pixels come before those of each later row
row_before : (w x y z : ℕ) → x < w → y < z → y * w + x < z * w
row_before w x y z in_row before =
    let h : suc y * w ≤ z * w = mul-le-mul_right w before in
    let e : suc y * w ≡ y * w + w = omega arith in
    omega (arith, h, e)

pub PaintsRows-more : {old mid new : List ℕ} {w h left right top y : ℕ} {colour : Rgba} → PaintsRows old mid w h left right top y colour → right ≤ w → left ≤ right → FillsSpan mid new (y * w + left) (y * w + right) colour → top ≤ y → PaintsRows old new w h left right top (y + 1) colour
PaintsRows-more {old} {mid} {new} {w} {h} {left} {right} {top} {y} {colour} rows narrow ordered span started = record {
  pixels = λ x z in_row in_column.
      let was = rows.pixels x z in_row in_column in
      elim (cases_lt z y) [
        | inl higher ↦
            let before = row_before w x z y in_row higher in
            let same : pixel_in new (z * w + x) ≡ pixel_in mid (z * w + x) = span.below (z * w + x) (omega (arith, before)) in
            grind (arith, nat_tests, same, was)
        | inr lower ↦ elim (cases_lt y z) [
          | inl later ↦
              let after = row_before w 0 y z (omega arith) later in
              let next : suc y * w ≤ z * w = mul-le-mul_right w later in
              let e : suc y * w ≡ y * w + w = omega arith in
              let same : pixel_in new (z * w + x) ≡ pixel_in mid (z * w + x) = span.above (z * w + x) (omega (arith, next, e)) in
              grind (arith, nat_tests, same, was)
          | inr earlier ↦
              let here : z ≡ y = omega arith in
              let there : z * w ≡ y * w = ap (λ n. n * w) here in
              elim (cases_lt x left) [
                | inl before ↦
                    let same : pixel_in new (z * w + x) ≡ pixel_in mid (z * w + x) = span.below (z * w + x) (omega (arith, there)) in
                    grind (arith, nat_tests, same, was)
                | inr from ↦ elim (cases_lt x right) [
                  | inl inside ↦
                      let filled : pixel_in new (z * w + x) ≡ colour = span.inside (z * w + x) (omega (arith, there)) (omega (arith, there)) in
                      grind (arith, nat_tests, filled)
                  | inr beyond ↦
                      let same : pixel_in new (z * w + x) ≡ pixel_in mid (z * w + x) = span.above (z * w + x) (omega (arith, there)) in
                      grind (arith, nat_tests, same, was)
                ]
              ]
        ]
      ];
}

-- the rows that a rectangle covers, each between its sides, are what it covers
pub PaintsFill-rows : {old new : List ℕ} {w h left right top bottom y : ℕ} {colour : Rgba} (rect : Rect) → PaintsRows old new w h left right top y colour → y ≡ bottom → ((x : ℕ) → x < w → is_within rect.x rect.width (pos x) ≡ (nat_le left x && nat_lt x right)) → ((z : ℕ) → z < h → is_within rect.y rect.height (pos z) ≡ (nat_le top z && nat_lt z bottom)) → PaintsFill old new w h rect colour
unfolding covers
PaintsFill-rows {old} {new} {w} {h} {left} {right} {top} {bottom} {y} {colour} rect rows ended across down = record {
  pixels = λ x z in_row in_column.
      rw (across x in_row, down z in_column, ← ended) (rows.pixels x z in_row in_column);
}

-- the colour of a choice is the choice of the colour
colour_of-if : (b : Bool) (fill : Fill) (rest : Option Fill) → colour_of (if b then Some fill else rest) ≡ (if b then fill.colour else colour_of rest)
colour_of-if true fill rest = refl
colour_of-if false fill rest = refl

-- one fill more covers what it covers
pub colour_at-more : (fills : List Fill) (i : ℕ) (d : Fill) (x y : ℕ) → i < length fills → colour_at (take (i + 1) fills) x y ≡ (if covers (get_or fills i d).rect (pos x) (pos y) then (get_or fills i d).colour else colour_at (take i fills) x y)
colour_at-more fills i d x y h =
    let e : reverse (take (i + 1) fills) ≡ get_or fills i d ∷ reverse (take i fills) = rw (take_more fills i d h, reverse-append) refl in
    rw e (colour_of-if (covers (get_or fills i d).rect (pos x) (pos y)) (get_or fills i d) (find (λ fill. covers fill.rect (pos x) (pos y)) (reverse (take i fills))))

-- what is seen of a choice is the choice of what is seen
seen-if : (format : Format) (b : Bool) (one other : Rgba) → seen_as format (if b then one else other) ≡ (if b then seen_as format one else seen_as format other)
seen-if format true one other = refl
seen-if format false one other = refl

pub ShowsFills-more : (format : Format) (fills : List Fill) (i : ℕ) (d : Fill) {w h : ℕ} {mid new : List ℕ} → ShowsFills format (take i fills) w h mid → i < length fills → PaintsFill mid new w h (get_or fills i d).rect (seen_as format (get_or fills i d).colour) → ShowsFills format (take (i + 1) fills) w h new
ShowsFills-more format fills i d {w} {h} {mid} {new} shows more paints = record {
  pixels = λ x y in_row in_column.
      let was = shows.pixels x y in_row in_column in
      let now = paints.pixels x y in_row in_column in
      let e = ap (seen_as format) (colour_at-more fills i d x y more) ∙ seen-if format (covers (get_or fills i d).rect (pos x) (pos y)) (get_or fills i d).colour (colour_at (take i fills) x y) in
      grind (arith, was, now, e);
}

-- where a fill covers all, what was there before it does not matter
pub ShowsFills-covered : (format : Format) (fills : List Fill) (i : ℕ) (d : Fill) {w h : ℕ} {mid new : List ℕ} → CoversAll (get_or fills i d).rect w h → i < length fills → PaintsFill mid new w h (get_or fills i d).rect (seen_as format (get_or fills i d).colour) → ShowsFills format (take (i + 1) fills) w h new
ShowsFills-covered format fills i d {w} {h} {mid} {new} covered more paints = record {
  pixels = λ x y in_row in_column.
      let all = covered.points x y in_row in_column in
      let now = paints.pixels x y in_row in_column in
      let e = ap (seen_as format) (colour_at-more fills i d x y more) ∙ seen-if format (covers (get_or fills i d).rect (pos x) (pos y)) (get_or fills i d).colour (colour_at (take i fills) x y) in
      grind (arith, all, now, e);
}

-- all columns and all rows within are all points covered
pub CoversAll-within : (rect : Rect) (w h : ℕ) → ((x : ℕ) → x < w → is_within rect.x rect.width (pos x) ≡ true) → ((y : ℕ) → y < h → is_within rect.y rect.height (pos y) ≡ true) → CoversAll rect w h
unfolding covers
CoversAll-within rect w h across down = record {
  points = λ x y in_row in_column. rw (across x in_row, down y in_column) refl;
}

-- all from the first place to the last
pub all_within : (start : ℤ) (extent first end limit : ℕ) → ((at : ℕ) → at < limit → is_within start extent (pos at) ≡ (nat_le first at && nat_lt at end)) → first ≡ 0 → end ≡ limit → (at : ℕ) → at < limit → is_within start extent (pos at) ≡ true
all_within start extent first end limit same begins ends at below =
    let is = same at below in
    grind (arith, nat_tests, is, begins, ends)

-- filled bytes are the pixels of a picture without fills
pub ShowsFills-none : (format : Format) (w h : ℕ) (old new : List ℕ) → FillsSpan old new 0 (w * h) (seen_as format transparent) → ShowsFills format [] w h new
ShowsFills-none format w h old new filled = record {
  pixels = λ x y in_row in_column.
      let last : suc y * w ≤ h * w = mul-le-mul_right w in_column in
      let e : suc y * w ≡ y * w + w = omega arith in
      let turned : h * w ≡ w * h = omega arith in
      filled.inside (y * w + x) (omega arith) (omega (arith, last, e, turned));
}

-- what is seen of a point that no fill covers
nothing_at : (of : Format) (fills : List Fill) → of ≡ format.Rgba → length fills ≡ 0 → (x y : ℕ) → seen_as of (colour_at fills x y) ≡ transparent
unfolding seen_as
nothing_at of [] alpha none x y = rw alpha refl
nothing_at of (fill ∷ fills) alpha none x y = absurd (omega (arith, none))

-- a picture without fills in a format with alpha
pub ShowsNothing-unfilled : (picture : Picture) → picture.format ≡ format.Rgba → length picture.fills ≡ 0 → ShowsNothing picture
ShowsNothing-unfilled picture alpha none = record {
  pixels = nothing_at picture.format picture.fills alpha none;
}

-- bytes that are all 0 are the pixels of a picture of transparent black
pub ShowsPicture-nothing : (picture : Picture) → ShowsNothing picture → ShowsPicture picture (replicate (4 * (picture.width * picture.height)) 0)
ShowsPicture-nothing picture nothing = record {
  size = length-replicate _ _;
  pixels = λ x y in_row in_column. zeros (4 * (picture.width * picture.height)) (y * picture.width + x) ∙ sym (nothing.pixels x y);
}
