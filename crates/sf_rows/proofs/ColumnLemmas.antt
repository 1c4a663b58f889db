-- Pairs of pixels of two vectors, and four rows of picked pixels.
use Rattle.std.proofs.Common.{◌≡◌, ℕ, zero, suc, ◌+◌, ◌-◌, ◌*◌, ◌%◌, ◌<◌, ◌≤◌, ◌∙◌, Bool, true, false, if◌then◌else◌, List, [], ◌∷◌, ◌++◌, length, slice_index, get_or, ⊎_elim, refl, ap, sym, subst, arith, ℤ, pos, ◌+ℤ◌, ◌*ℤ◌}
use Rattle.std.proofs.Math.Nat.{mul-le-mul_right}
use Rattle.std.proofs.lemmas.Bool.{cases_lt}
use Rattle.std.proofs.lemmas.Int.{ints}
use Rattle.std.proofs.lemmas.List.{get_or_append_left, get_or-append_right}
use Rattle.std.proofs.lemmas.Simd.{get_or-chunk, get_or-put_chunk_at, get_or-put_chunk_below, get_or-put_chunk_above}
use lib.Lanes.{chunk, pick_l, put_chunk}
use Rattle.sf_base.specs.Bytes.{pixel_in}
use Rattle.sf_rows.specs.Pixels.{column_pixel, HasPixel, picked, PicksColumns}
use Rattle.sf_rows.proofs.PickLemmas.{number_room}
use Rattle.sf_rows.proofs.PixelLemmas.{pixel_by, pixel_same}

pub below_two : (P : ℕ → Type 0) → P 0 → P 1 → (j : ℕ) → j < 2 → P j
below_two P p0 p1 zero h = p0
below_two P p0 p1 (suc zero) h = p1
below_two P p0 p1 (suc (suc n)) h = absurd (omega arith)

-- bytes of two joined vectors

left_byte : (a b : List ℕ) (i : ℕ) → length a ≡ 16 → i < 16 → get_or (a ++ b) i 0 ≡ slice_index a i
left_byte a b i long h = get_or_append_left a b 0 i (omega (arith, long, h))

right_byte : (a b : List ℕ) (i : ℕ) → length a ≡ 16 → 16 ≤ i → get_or (a ++ b) i 0 ≡ slice_index b (i - 16)
right_byte a b i long h = get_or-append_right a b 16 i 0 long h

abbrev first_indices : List ℕ
first_indices = 0 ∷ 1 ∷ 2 ∷ 3 ∷ 16 ∷ 17 ∷ 18 ∷ 19 ∷ 4 ∷ 5 ∷ 6 ∷ 7 ∷ 20 ∷ 21 ∷ 22 ∷ 23 ∷ []

abbrev last_indices : List ℕ
last_indices = 8 ∷ 9 ∷ 10 ∷ 11 ∷ 24 ∷ 25 ∷ 26 ∷ 27 ∷ 12 ∷ 13 ∷ 14 ∷ 15 ∷ 28 ∷ 29 ∷ 30 ∷ 31 ∷ []

module _ (a b : List ℕ) (long : length a ≡ 16) where
  l : (i : ℕ) → i < 16 → get_or (a ++ b) i 0 ≡ slice_index a i
  l i h = left_byte a b i long h

  r : (i : ℕ) → 16 ≤ i → get_or (a ++ b) i 0 ≡ slice_index b (i - 16)
  r i h = right_byte a b i long h

  pub first_left : (row : ℕ) → row < 2 → pixel_in (pick_l 0 (a ++ b) first_indices) (2 * row) ≡ pixel_in a row
  first_left = below_two (λ row. pixel_in (pick_l 0 (a ++ b) first_indices) (2 * row) ≡ pixel_in a row)
      (pixel_by (pick_l 0 (a ++ b) first_indices) 0 (pixel_in a 0) (l 0 (omega arith)) (l 1 (omega arith)) (l 2 (omega arith)) (l 3 (omega arith)))
      (pixel_by (pick_l 0 (a ++ b) first_indices) 2 (pixel_in a 1) (l 4 (omega arith)) (l 5 (omega arith)) (l 6 (omega arith)) (l 7 (omega arith)))

  pub first_right : (row : ℕ) → row < 2 → pixel_in (pick_l 0 (a ++ b) first_indices) (2 * row + 1) ≡ pixel_in b row
  first_right = below_two (λ row. pixel_in (pick_l 0 (a ++ b) first_indices) (2 * row + 1) ≡ pixel_in b row)
      (pixel_by (pick_l 0 (a ++ b) first_indices) 1 (pixel_in b 0) (r 16 (omega arith)) (r 17 (omega arith)) (r 18 (omega arith)) (r 19 (omega arith)))
      (pixel_by (pick_l 0 (a ++ b) first_indices) 3 (pixel_in b 1) (r 20 (omega arith)) (r 21 (omega arith)) (r 22 (omega arith)) (r 23 (omega arith)))

  pub last_left : (row : ℕ) → row < 2 → pixel_in (pick_l 0 (a ++ b) last_indices) (2 * row) ≡ pixel_in a (2 + row)
  last_left = below_two (λ row. pixel_in (pick_l 0 (a ++ b) last_indices) (2 * row) ≡ pixel_in a (2 + row))
      (pixel_by (pick_l 0 (a ++ b) last_indices) 0 (pixel_in a 2) (l 8 (omega arith)) (l 9 (omega arith)) (l 10 (omega arith)) (l 11 (omega arith)))
      (pixel_by (pick_l 0 (a ++ b) last_indices) 2 (pixel_in a 3) (l 12 (omega arith)) (l 13 (omega arith)) (l 14 (omega arith)) (l 15 (omega arith)))

  pub last_right : (row : ℕ) → row < 2 → pixel_in (pick_l 0 (a ++ b) last_indices) (2 * row + 1) ≡ pixel_in b (2 + row)
  last_right = below_two (λ row. pixel_in (pick_l 0 (a ++ b) last_indices) (2 * row + 1) ≡ pixel_in b (2 + row))
      (pixel_by (pick_l 0 (a ++ b) last_indices) 1 (pixel_in b 2) (r 24 (omega arith)) (r 25 (omega arith)) (r 26 (omega arith)) (r 27 (omega arith)))
      (pixel_by (pick_l 0 (a ++ b) last_indices) 3 (pixel_in b 3) (r 28 (omega arith)) (r 29 (omega arith)) (r 30 (omega arith)) (r 31 (omega arith)))

  pub half_first : (j : ℕ) → j < 2 → pixel_in (pick_l 0 (a ++ b) (0 ∷ 1 ∷ 2 ∷ 3 ∷ 4 ∷ 5 ∷ 6 ∷ 7 ∷ [])) j ≡ pixel_in a j
  half_first = below_two (λ j. pixel_in (pick_l 0 (a ++ b) (0 ∷ 1 ∷ 2 ∷ 3 ∷ 4 ∷ 5 ∷ 6 ∷ 7 ∷ [])) j ≡ pixel_in a j)
      (pixel_by (pick_l 0 (a ++ b) (0 ∷ 1 ∷ 2 ∷ 3 ∷ 4 ∷ 5 ∷ 6 ∷ 7 ∷ [])) 0 (pixel_in a 0) (l 0 (omega arith)) (l 1 (omega arith)) (l 2 (omega arith)) (l 3 (omega arith)))
      (pixel_by (pick_l 0 (a ++ b) (0 ∷ 1 ∷ 2 ∷ 3 ∷ 4 ∷ 5 ∷ 6 ∷ 7 ∷ [])) 1 (pixel_in a 1) (l 4 (omega arith)) (l 5 (omega arith)) (l 6 (omega arith)) (l 7 (omega arith)))

  pub half_last : (j : ℕ) → j < 2 → pixel_in (pick_l 0 (a ++ b) (8 ∷ 9 ∷ 10 ∷ 11 ∷ 12 ∷ 13 ∷ 14 ∷ 15 ∷ [])) j ≡ pixel_in a (2 + j)
  half_last = below_two (λ j. pixel_in (pick_l 0 (a ++ b) (8 ∷ 9 ∷ 10 ∷ 11 ∷ 12 ∷ 13 ∷ 14 ∷ 15 ∷ [])) j ≡ pixel_in a (2 + j))
      (pixel_by (pick_l 0 (a ++ b) (8 ∷ 9 ∷ 10 ∷ 11 ∷ 12 ∷ 13 ∷ 14 ∷ 15 ∷ [])) 0 (pixel_in a 2) (l 8 (omega arith)) (l 9 (omega arith)) (l 10 (omega arith)) (l 11 (omega arith)))
      (pixel_by (pick_l 0 (a ++ b) (8 ∷ 9 ∷ 10 ∷ 11 ∷ 12 ∷ 13 ∷ 14 ∷ 15 ∷ [])) 1 (pixel_in a 3) (l 12 (omega arith)) (l 13 (omega arith)) (l 14 (omega arith)) (l 15 (omega arith)))

-- the pixels of a column

beside : (first row n j : ℕ) (steps : ℤ) → pos n ≡ (pos first +ℤ steps) → pos j ≡ (pos (first + row) +ℤ steps) → j ≡ n + row
beside first row n j steps e f = omega (arith, ints, e, f)

-- so many rows further down, the number is so much more
pub number_beside : (first row n j k : ℕ) (step : ℤ) → pos n ≡ picked first step k → pos j ≡ picked (first + row) step k → j ≡ n + row
unfolding picked
number_beside first row n j k step e f = beside first row n j (step *ℤ pos k) e f

lower : (first row n : ℕ) (steps : ℤ) → pos n ≡ (pos first +ℤ steps) → pos (n + row) ≡ (pos (first + row) +ℤ steps)
lower first row n steps e = omega (arith, ints, e)

pub number_lower : (first row n k : ℕ) (step : ℤ) → pos n ≡ picked first step k → pos (n + row) ≡ picked (first + row) step k
unfolding picked
number_lower first row n k step e = lower first row n (step *ℤ pos k) e

-- the bytes of four of them
pub column_room : (src : List ℕ) (first n k : ℕ) (step : ℤ) → length src % 4 ≡ 0 → pos n ≡ picked first step k → HasPixel src (picked (first + 3) step k) → 4 * (n + 4) ≤ length src
column_room src first n k step whole is has =
    let room : 4 * ((n + 3) + 1) ≤ length src = number_room src (n + 3) (picked (first + 3) step k) whole (number_lower first 3 n k step is) has in
    omega (arith, room)

pub column_pixels : (src : List ℕ) (first n k : ℕ) (step : ℤ) → pos n ≡ picked first step k
    → (row j : ℕ) → row < 4 → pos j ≡ picked (first + row) step k → pixel_in (chunk (4 * n) 16 src) row ≡ pixel_in src j
column_pixels src first n k step is row j h number =
    let j_is : j ≡ n + row = number_beside first row n j k step is number in
    pixel_same (chunk (4 * n) 16 src) src row j (λ c low.
    let index : 4 * n + (4 * row + c) ≡ 4 * j + c = omega (arith, j_is) in
    get_or-chunk (4 * n) 16 src (4 * row + c) 0 (omega (arith, h, low)) ∙ ap (slice_index src) index)

-- two pixels that are stored

pub two_in : (old two : List ℕ) (at j : ℕ) → length two ≡ 8 → 4 * (at + 2) ≤ length old → j < 2 → pixel_in (put_chunk (4 * at) old two) (at + j) ≡ pixel_in two j
two_in old two at j long room h =
    pixel_same (put_chunk (4 * at) old two) two (at + j) j (λ c low.
    let index : 4 * at + (4 * j + c) ≡ 4 * (at + j) + c = omega arith in
    subst (λ (n : ℕ). slice_index (put_chunk (4 * at) old two) n ≡ slice_index two (4 * j + c)) index
    (get_or-put_chunk_at (4 * at) old two (4 * j + c) 0 (omega (arith, long, h, low)) (omega (arith, long, room))))

pub two_below : (old two : List ℕ) (at i : ℕ) → i < at → pixel_in (put_chunk (4 * at) old two) i ≡ pixel_in old i
two_below old two at i h =
    pixel_same (put_chunk (4 * at) old two) old i i (λ c low. get_or-put_chunk_below (4 * at) old two (4 * i + c) 0 (omega (arith, h, low)))

pub two_above : (old two : List ℕ) (at i : ℕ) → length two ≡ 8 → at + 2 ≤ i → pixel_in (put_chunk (4 * at) old two) i ≡ pixel_in old i
two_above old two at i long h =
    pixel_same (put_chunk (4 * at) old two) old i i (λ c low. get_or-put_chunk_above (4 * at) old two (4 * i + c) 0 (omega (arith, long, h)))

-- a span of two pixels that does not have a pixel
pub beside_two : (old new : List ℕ) (at i : ℕ) → ((i : ℕ) → i < at → pixel_in new i ≡ pixel_in old i) → ((i : ℕ) → at + 2 ≤ i → pixel_in new i ≡ pixel_in old i)
    → ((k : ℕ) → k < 2 → i ≡ at + k → ⊥) → pixel_in new i ≡ pixel_in old i
beside_two old new at i below above apart = ⊎_elim
    (λ (before : i < at). below i before)
    (λ (after : at ≤ i). ⊎_elim
    (λ (inside : i < at + 2). absurd (apart (i - at) (omega (arith, inside, after)) (omega (arith, after))))
    (λ (over : at + 2 ≤ i). above i over)
    (cases_lt i (at + 2)))
    (cases_lt i at)

-- four pairs of pixels, one below the other

pub below_four : (P : ℕ → Type 0) → P 0 → P 1 → P 2 → P 3 → (j : ℕ) → j < 4 → P j
below_four P p0 p1 p2 p3 zero h = p0
below_four P p0 p1 p2 p3 (suc zero) h = p1
below_four P p0 p1 p2 p3 (suc (suc zero)) h = p2
below_four P p0 p1 p2 p3 (suc (suc (suc zero))) h = p3
below_four P p0 p1 p2 p3 (suc (suc (suc (suc n)))) h = absurd (omega arith)

-- two pixels of a row, each from its column
pub two_of : (src half left right : List ℕ) (first row k : ℕ) (step : ℤ) → row < 4 → pixel_in half 0 ≡ pixel_in left row → pixel_in half 1 ≡ pixel_in right row
    → ((r j : ℕ) → r < 4 → pos j ≡ picked (first + r) step k → pixel_in left r ≡ pixel_in src j)
    → ((r j : ℕ) → r < 4 → pos j ≡ picked (first + r) step (k + 1) → pixel_in right r ≡ pixel_in src j)
    → (j m : ℕ) → j < 2 → pos m ≡ picked (first + row) step (k + j) → pixel_in half j ≡ pixel_in src m
two_of src half left right first row k step h e f at_left at_right j m low number =
    below_two (λ j. pos m ≡ picked (first + row) step (k + j) → pixel_in half j ≡ pixel_in src m)
    (λ number.
    let here : k + 0 ≡ k = omega arith in
    e ∙ at_left row m h (subst (λ (n : ℕ). pos m ≡ picked (first + row) step n) here number))
    (λ number. f ∙ at_right row m h number)
    j low number

-- the row whose pixels a row gets, where the rows go back or not
pub row_within : (back : Bool) (row : ℕ) → row < 4 → (if back then 3 - row else row) < 4
row_within true row h = omega arith
row_within false row h = h

-- pixels of different rows

rows_differ : (w a x b y : ℕ) → x < w → a < b → a * w + x ≡ b * w + y → ⊥
rows_differ w a x b y in_a before is =
    let h : suc a * w ≤ b * w = mul-le-mul_right w before in
    let e : suc a * w ≡ a * w + w = omega arith in
    omega (arith, h, e, in_a, is)

pub same_column : (w a x b y : ℕ) → x < w → y < w → a * w + x ≡ b * w + y → x ≡ y
same_column w a x b y in_a in_b is = ⊎_elim
    (λ (before : a < b). absurd (rows_differ w a x b y in_a before is))
    (λ (after : b ≤ a). ⊎_elim
    (λ (more : b < a). absurd (rows_differ w b y a x in_b more (sym is)))
    (λ (less : a ≤ b).
    let e : a ≡ b = omega arith in
    let rows : a * w ≡ b * w = ap (λ (n : ℕ). n * w) e in
    omega (arith, is, rows))
    (cases_lt b a))
    (cases_lt a b)

-- no columns yet
pub no_columns : (start apart : ℕ) (src old : List ℕ) (number : ℕ → ℕ → ℤ) → PicksColumns start apart src number 0 old old
no_columns start apart src old number = record { size = refl; each = λ row k j h low is. absurd (omega (arith, low)); rest = λ i beside. refl }

-- two columns more
pub more_columns : (start apart k : ℕ) (src old mid new : List ℕ) (first : ℕ) (step : ℤ) (back : Bool) → k + 2 ≤ apart
    → PicksColumns start apart src (column_pixel first step back 0) k old mid → PicksColumns (start + k) apart src (column_pixel first step back k) 2 mid new
    → PicksColumns start apart src (column_pixel first step back 0) (k + 2) old new
more_columns start apart k src old mid new first step back room so two = record {
  size = two.size ∙ so.size;
  each = λ row i j h low is. ⊎_elim
      (λ (before : i < k).
      two.rest (start + row * apart + i) (λ other m less few same.
      let here : row * apart + i ≡ other * apart + (k + m) = omega (arith, same) in
      let column = same_column apart row i other (k + m) (omega (arith, before, room)) (omega (arith, few, room)) here in
      omega (arith, column, before))
      ∙ so.each row i j h before is)
      (λ (after : k ≤ i).
      let index : start + k + row * apart + (i - k) ≡ start + row * apart + i = omega (arith, after) in
      let further : 0 + i ≡ k + (i - k) = omega (arith, after) in
      subst (λ (n : ℕ). pixel_in new n ≡ pixel_in src j) index
      (two.each row (i - k) j h (omega (arith, low, after)) (is ∙ ap (λ (n : ℕ). picked (first + (if back then 3 - row else row)) step n) further)))
      (cases_lt i k);
  rest = λ i beside.
      two.rest i (λ row m less few same.
      let there : i ≡ start + row * apart + (k + m) = omega (arith, same) in
      beside row (k + m) less (omega (arith, few)) there)
      ∙ so.rest i (λ row m less few same. beside row m less (omega (arith, few)) same);
}
