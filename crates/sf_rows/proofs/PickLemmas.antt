-- The number of a picked pixel as the machine computes it.
use Rattle.std.proofs.Common.{arith, ◌≡◌, ℕ, ◌+◌, ◌-◌, ◌*◌, ◌/◌, ◌%◌, ◌<◌, ◌≤◌, ◌^◌, ◌∙◌, pos, neg_ℤ, ap, refl, subst, sym, ⊎_elim, List, length, slice_index, ◌+ℤ◌, ◌*ℤ◌, ◌≤ℤ◌, ◌<ℤ◌, to_z, of_z, w32, w64, ℤ}
use lib.Dec.{T}
use lib.IntN.{negsuc, negsuc-*ℤ-pos, nat_abs}
use lib.Signed.{non_neg}
use lib.Lanes.{chunk, put_chunk}
use Rattle.std.specs.List.{between}
use Rattle.std.proofs.lemmas.List.Edits.{get_or-between}
use Rattle.std.proofs.lemmas.Bool.{cases_lt}
use Rattle.std.proofs.lemmas.Simd.{get_or-chunk, get_or-put_chunk_at, get_or-put_chunk_below}
use Rattle.sf_rows.specs.Pixels.{HasPixel, picked, PickedBelow}
use Rattle.sf_rows.proofs.PixelLemmas.{pixel_same}
use Rattle.std.proofs.lemmas.Int.{ints, to_z_pos}
use mir.Val.{Fits, SFits}

-- the steps from the first pixel
pub steps_are : (step s : ℤ) (k : ℕ) → SFits w32 step → s ≡ to_z w32 (of_z w32 step) → k < 2 ^ 62 → to_z w64 (of_z w64 s) *ℤ to_z w64 k ≡ step *ℤ pos k
steps_are step s k fits is few =
    let wide : to_z w64 (of_z w64 s) ≡ step = omega (arith, ints) in
    let count : to_z w64 k ≡ pos k = to_z_pos w64 k (omega (arith, few)) in
    rw (wide, count) refl

-- the sum fits, and is not changed by its way through words of 64 bits
pub sum_is : (first : ℕ) (f steps : ℤ) → first < 2 ^ 32 → f ≡ pos first → pos 0 ≤ℤ (pos first +ℤ steps) → (pos first +ℤ steps) <ℤ pos (2 ^ 62)
    → to_z w64 (of_z w64 (to_z w64 (of_z w64 f) +ℤ to_z w64 (of_z w64 steps))) ≡ pos first +ℤ steps
sum_is first f steps small is low high = omega (arith, ints)

-- the number of a pixel that a row has
pub number_is : (row : List ℕ) (first : ℕ) (step f s : ℤ) (k : ℕ) → first < 2 ^ 32 → SFits w32 step → k < 2 ^ 62 → length row < 2 ^ 63 → f ≡ pos first → s ≡ to_z w32 (of_z w32 step)
    → HasPixel row (picked first step k)
    → to_z w64 (of_z w64 (to_z w64 (of_z w64 f) +ℤ to_z w64 (of_z w64 (to_z w64 (of_z w64 s) *ℤ to_z w64 k)))) ≡ picked first step k
unfolding picked
number_is row first step f s k small fits few room is steps has =
    ap (λ z. to_z w64 (of_z w64 (to_z w64 (of_z w64 f) +ℤ to_z w64 (of_z w64 z)))) (steps_are step s k fits steps few)
    ∙ sum_is first f (step *ℤ pos k) small is has.low (omega (arith, ints, has.low, has.high, room))

-- the bytes of such a pixel
pub pixel_room : (row : List ℕ) (z : ℤ) → length row % 4 ≡ 0 → HasPixel row z → 4 * (nat_abs z + 1) ≤ length row
pixel_room row (pos m) whole has = omega (arith, ints, whole, has.high)
pixel_room row (negsuc m) whole has = absurd (omega (arith, ints, has.low))

-- its number fits a word of 64 bits
pub number_fits : (row : List ℕ) (z : ℤ) → length row < 2 ^ 63 → HasPixel row z → T (non_neg z) × Fits w64 (nat_abs z)
number_fits row (pos m) room has = (tt, search (arith, ints, has.high, room))
number_fits row (negsuc m) room has = absurd (omega (arith, ints, has.low))

-- it is not below zero
pub number_whole : (row : List ℕ) (z : ℤ) → HasPixel row z → pos (nat_abs z) ≡ z
number_whole row (pos m) has = refl
number_whole row (negsuc m) has = absurd (omega (arith, ints, has.low))

-- two numbers of one pixel
pub same_number : (n m : ℕ) (z : ℤ) → pos n ≡ z → pos m ≡ z → n ≡ m
same_number n m z e f = cc

-- the bytes of a pixel by its number
pub number_room : (row : List ℕ) (n : ℕ) (z : ℤ) → length row % 4 ≡ 0 → pos n ≡ z → HasPixel row z → 4 * (n + 1) ≤ length row
number_room row n z whole is has =
    let here : HasPixel row (pos n) = subst (HasPixel row) (sym is) has in
    pixel_room row (pos n) whole here

-- pixels that follow one another

-- so many of them end before the source does
pub on_room : (source : List ℕ) (first n : ℕ) → length source % 4 ≡ 0 → n % 4 ≡ 0 → 0 < n → HasPixel source (picked first (pos 1) (n / 4 - 1)) → 4 * first + n ≤ length source
unfolding picked
on_room source first n whole pixels some has = omega (arith, ints, whole, pixels, some, has.high)

-- the number of one of them
pub number_on : (first k j : ℕ) → pos j ≡ picked first (pos 1) k → j ≡ first + k
unfolding picked
number_on first k j is = omega (arith, ints, is)

-- all of them
pub picked_on : (source new : List ℕ) (first n : ℕ) → n % 4 ≡ 0 → new ≡ between (4 * first) (4 * first + n) source → PickedBelow source first (pos 1) (n / 4) new
picked_on source new first n pixels is = record {
  each = λ k j h number. pixel_same new source k j (λ c low.
      let index : 4 * first + (4 * k + c) ≡ 4 * j + c = omega (arith, number_on first k j number) in
      rw is (get_or-between source (4 * first) (4 * first + n) (4 * k + c) 0 (omega (arith, pixels, h, low)) ∙ ap (slice_index source) index));
}

-- pixels that stand one before another

minus_one : (k : ℕ) → neg_ℤ (pos 1) *ℤ pos k ≡ neg_ℤ (pos k)
minus_one k = let one : 1 * k ≡ k = omega arith in negsuc-*ℤ-pos 0 k ∙ ap (λ (n : ℕ). neg_ℤ (pos n)) one

-- the number of one of them
pub number_back : (first k j : ℕ) → pos j ≡ picked first (neg_ℤ (pos 1)) k → j + k ≡ first
unfolding picked
number_back first k j is =
    let less : pos j ≡ (pos first +ℤ neg_ℤ (pos k)) = is ∙ ap (λ (z : ℤ). pos first +ℤ z) (minus_one k) in
    omega (arith, ints, less)

-- one that the source has
has_back : (source : List ℕ) (first k : ℕ) → length source % 4 ≡ 0 → HasPixel source (picked first (neg_ℤ (pos 1)) k) → (k ≤ first) × (4 * (first - k + 1) ≤ length source)
unfolding picked
has_back source first k whole has =
    let is : picked first (neg_ℤ (pos 1)) k ≡ (pos first +ℤ neg_ℤ (pos k)) = ap (λ (z : ℤ). pos first +ℤ z) (minus_one k) in
    let low : pos 0 ≤ℤ (pos first +ℤ neg_ℤ (pos k)) = subst (λ (z : ℤ). pos 0 ≤ℤ z) is has.low in
    let high : (pos 4 *ℤ (pos first +ℤ neg_ℤ (pos k))) <ℤ pos (length source) = subst (λ (z : ℤ). (pos 4 *ℤ z) <ℤ pos (length source)) is has.high in
    (omega (arith, ints, low), omega (arith, ints, low, high, whole))

-- the last of so many pixels from an index on
pub back_low : (source : List ℕ) (first at n long : ℕ) → length source % 4 ≡ 0 → at % 4 ≡ 0 → 0 < n → at + 4 * n ≤ long → ((k : ℕ) → 4 * k < long → HasPixel source (picked first (neg_ℤ (pos 1)) k))
    → at + 4 * n ≤ 4 * first + 4
back_low source first at n long whole pixels some room inside =
    let has = has_back source first (at / 4 + (n - 1)) whole (inside (at / 4 + (n - 1)) (omega (arith, pixels, some, room))) in
    omega (arith, has.0, pixels, some)

-- the first of them
pub back_high : (source : List ℕ) (first at long : ℕ) → length source % 4 ≡ 0 → at % 4 ≡ 0 → at < long → ((k : ℕ) → 4 * k < long → HasPixel source (picked first (neg_ℤ (pos 1)) k))
    → (at ≤ 4 * first) × (4 * first + 4 ≤ length source + at)
back_high source first at long whole pixels room inside =
    let has = has_back source first (at / 4) whole (inside (at / 4) (omega (arith, pixels, room))) in
    (omega (arith, has.0, pixels), omega (arith, has.0, has.1, pixels))

-- sixteen pixels more
pub picked_back : (source mid out : List ℕ) (first at from : ℕ) → at % 4 ≡ 0 → at + 64 ≤ length mid → at + (from + 60) ≡ 4 * first → length out ≡ 64
    → ((k c : ℕ) → k < 16 → c < 4 → slice_index out (4 * k + c) ≡ slice_index (chunk from 64 source) (4 * (15 - k) + c))
    → PickedBelow source first (neg_ℤ (pos 1)) (at / 4) mid → PickedBelow source first (neg_ℤ (pos 1)) ((at + 64) / 4) (put_chunk at mid out)
picked_back source mid out first at from pixels room index long is so = record {
  each = λ k j h number. ⊎_elim
      (λ (before : k < at / 4). pixel_same (put_chunk at mid out) mid k k (λ c low. get_or-put_chunk_below at mid out (4 * k + c) 0 (omega (arith, pixels, before, low))) ∙ so.each k j before number)
      (λ (after : at / 4 ≤ k). pixel_same (put_chunk at mid out) source k j (λ c low. here k j c after h low (number_back first k j number)))
      (cases_lt k (at / 4));
}
  where
    here : (k j c : ℕ) → at / 4 ≤ k → k < (at + 64) / 4 → c < 4 → j + k ≡ first → slice_index (put_chunk at mid out) (4 * k + c) ≡ slice_index source (4 * j + c)
    here k j c after before low number =
        let i : ℕ = k - at / 4 in
        let index_out : at + (4 * i + c) ≡ 4 * k + c = omega (arith, pixels, after) in
        let index_in : from + (4 * (15 - i) + c) ≡ 4 * j + c = omega (arith, pixels, after, before, index, number) in
        let put : slice_index (put_chunk at mid out) (at + (4 * i + c)) ≡ slice_index out (4 * i + c) = get_or-put_chunk_at at mid out (4 * i + c) 0 (omega (arith, long, pixels, after, before, low)) (omega (arith, long, room)) in
        let was : slice_index (chunk from 64 source) (4 * (15 - i) + c) ≡ slice_index source (from + (4 * (15 - i) + c)) = get_or-chunk from 64 source (4 * (15 - i) + c) 0 (omega (arith, low)) in
        subst (λ (n : ℕ). slice_index (put_chunk at mid out) n ≡ slice_index source (4 * j + c)) index_out
        (put ∙ (is i c (omega (arith, pixels, after, before)) low ∙ (was ∙ ap (slice_index source) index_in)))
