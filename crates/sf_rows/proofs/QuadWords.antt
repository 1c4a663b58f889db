-- Fours of bytes as words.
use Rattle.std.proofs.Common.{◌≡◌, ℕ, zero, suc, ◌+◌, ◌-◌, ◌*◌, ◌/◌, ◌%◌, ◌^◌, ◌<◌, ◌≤◌, List, [], ◌∷◌, ◌++◌, length, slice_index, get_or, refl, sym, ap, ◌∙◌, subst, arith}
use Rattle.std.proofs.lemmas.Simd.{get_or_wider, get_or_narrower, get_or-chunk, length-chunk, Each1-from_get_or, Each1-chunk, pick_l_left}
use lib.Lanes.{chunk, number_l, digits_l, pick_l, Each1}
use Rattle.sf_rows.proofs.RowLemmas.{below_four, below_sixteen}

-- a part of the word that four bytes make
part : (x y z w : ℕ) → x < 256 → y < 256 → z < 256 → w < 256 → (c : ℕ) → c < 4 → number_l 256 (x ∷ y ∷ z ∷ w ∷ []) / 256 ^ c % 256 ≡ slice_index (x ∷ y ∷ z ∷ w ∷ []) c
part x y z w a b d e c h =
    below_four (λ c. number_l 256 (x ∷ y ∷ z ∷ w ∷ []) / 256 ^ c % 256 ≡ slice_index (x ∷ y ∷ z ∷ w ∷ []) c) (omega (arith, a, b, d, e)) (omega (arith, a, b, d, e)) (omega (arith, a, b, d, e)) (omega (arith, a, b, d, e)) c h

byte_of_four : (ys : List ℕ) → length ys ≡ 4 → Each1 (λ x. x < 256) ys → (c : ℕ) → c < 4 → number_l 256 ys / 256 ^ c % 256 ≡ slice_index ys c
byte_of_four (x ∷ y ∷ z ∷ w ∷ []) long small c h = part x y z w small.0 small.1.0 small.1.1.0 small.1.1.1.0 c h
byte_of_four [] long small c h = absurd (omega (arith, long))
byte_of_four (x ∷ []) long small c h = absurd (omega (arith, long))
byte_of_four (x ∷ y ∷ []) long small c h = absurd (omega (arith, long))
byte_of_four (x ∷ y ∷ z ∷ []) long small c h = absurd (omega (arith, long))
byte_of_four (x ∷ y ∷ z ∷ w ∷ v ∷ ys) long small c h = absurd (omega (arith, long))

-- sixteen words of 64 bytes
abbrev words : List ℕ → List ℕ
words a = digits_l 4294967296 16 (number_l 256 a)

word_small : (n x i : ℕ) → get_or (digits_l 4294967296 n x) i 0 < 4294967296
word_small zero x i = omega arith
word_small (suc n) x zero = omega arith
word_small (suc n) x (suc i) = word_small n (x / 4294967296) i

-- the last of them first
abbrev indices : List ℕ
indices = 15 ∷ 14 ∷ 13 ∷ 12 ∷ 11 ∷ 10 ∷ 9 ∷ 8 ∷ 7 ∷ 6 ∷ 5 ∷ 4 ∷ 3 ∷ 2 ∷ 1 ∷ 0 ∷ []

abbrev backs : List ℕ → List ℕ
backs a = pick_l 0 (words a) indices

back_at : (a : List ℕ) (k : ℕ) → k < 16 → get_or (backs a) k 0 ≡ get_or (words a) (15 - k) 0
back_at a k h = below_sixteen (λ k. get_or (backs a) k 0 ≡ get_or (words a) (15 - k) 0) refl refl refl refl refl refl refl refl refl refl refl refl refl refl refl refl k h

backs_small : (a : List ℕ) → Each1 (λ x. x < 4294967296) (backs a)
backs_small a = Each1-from_get_or (λ x. x < 4294967296) (backs a) 0 (λ i h. subst (λ (n : ℕ). n < 4294967296) (sym (back_at a i h)) (word_small 16 (number_l 256 a) (15 - i)))

-- a byte of the pixels from the last one back
pub byte_back : (a : List ℕ) → length a ≡ 64 → Each1 (λ x. x < 256) a → (k c : ℕ) → k < 16 → c < 4
    → slice_index (digits_l 256 64 (number_l 4294967296 (pick_l 0 (words a ++ words a) indices))) (4 * k + c) ≡ slice_index a (4 * (15 - k) + c)
byte_back a long small k c row column =
    let room : 4 * (15 - k) + 4 ≤ length a = omega (arith, long, row) in
    let four : List ℕ = chunk (4 * (15 - k)) 4 a in
    let word : get_or (backs a) k 0 ≡ number_l 256 four = back_at a k row ∙ get_or_wider 256 4 4294967296 16 a (15 - k) refl small (omega (arith, row)) in
    ap (λ (ws : List ℕ). slice_index (digits_l 256 64 (number_l 4294967296 ws)) (4 * k + c)) (pick_l_left 0 (words a) (words a) 16 indices refl tt)
    ∙ (get_or_narrower 4294967296 4 256 64 (backs a) k c refl (backs_small a) column (omega (arith, row, column))
    ∙ (ap (λ (w : ℕ). w / 256 ^ c % 256) word
    ∙ (byte_of_four four (length-chunk (4 * (15 - k)) 4 a room) (Each1-chunk (λ x. x < 256) (4 * (15 - k)) 4 a small) c column
    ∙ get_or-chunk (4 * (15 - k)) 4 a c 0 column)))
