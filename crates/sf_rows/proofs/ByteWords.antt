-- Pairs of bytes as words.
use Rattle.std.proofs.Common.{◌≡◌, ℕ, ◌+◌, ◌-◌, ◌*◌, ◌/◌, ◌%◌, ◌^◌, ◌≤◌, ◌<◌, List, [], ◌∷◌, length, slice_index, get_or, bit_and, ◌++◌, ⊎_elim, refl, subst, arith}
use Rattle.std.proofs.lemmas.Simd.{get_or_wider, get_or_narrower, get_or-chunk, length-chunk, get_or-zip2, Each1-get_or, length-zip2, Each1-zip2, Each2-all}
use Rattle.std.proofs.lemmas.List.{get_or-replicate, get_or_append_left}
use Rattle.std.proofs.lemmas.Bool.{cases_lt}
use Rattle.sf_base.specs.Blend.{product}
use Rattle.sf_rows.proofs.EachLane.{Small}
use Rattle.std.proofs.lemmas.Nat.{and_mask}
use lib.ListN.{replicate}
use lib.Lanes.{zip2, chunk, number_l, digits_l, Each1}

two : (ys : List ℕ) → length ys ≡ 2 → number_l 256 ys ≡ get_or ys 0 0 + 256 * get_or ys 1 0
two (x ∷ y ∷ []) h = omega arith
two [] h = absurd (omega arith)
two (x ∷ []) h = absurd (omega arith)
two (x ∷ y ∷ z ∷ ys) h = absurd (omega arith)

abbrev pub words : List ℕ → List ℕ
words a = digits_l 65536 8 (number_l 256 a)

pub word_at : (a : List ℕ) → length a ≡ 16 → Each1 (λ x. x < 256) a → (j : ℕ) → j < 8 → get_or (words a) j 0 ≡ slice_index a (2 * j) + 256 * slice_index a (2 * j + 1)
word_at a long small j h =
    let first : get_or (chunk (2 * j) 2 a) 0 0 ≡ slice_index a (2 * j) = subst (λ n. get_or (chunk (2 * j) 2 a) 0 0 ≡ get_or a n 0) (omega arith) (get_or-chunk (2 * j) 2 a 0 0 (omega arith)) in
    rw (
      get_or_wider 256 2 65536 8 a j refl small h,
      two (chunk (2 * j) 2 a) (length-chunk (2 * j) 2 a (omega (arith, long, h))),
      first,
      get_or-chunk (2 * j) 2 a 1 0 (omega arith),
    ) refl

byte_at : (a : List ℕ) → length a ≡ 16 → Each1 (λ x. x < 256) a → (i : ℕ) → i < 16 → slice_index a i < 256
byte_at a long small i h = Each1-get_or (λ x. x < 256) a i 0 (omega (arith, long, h)) small

low_of : (w x y : ℕ) → x < 256 → w ≡ x + 256 * y → bit_and w 255 ≡ x
low_of w x y h is = rw (and_mask w 8) (omega (arith, h, is))

pub even_at : (a : List ℕ) → length a ≡ 16 → Each1 (λ x. x < 256) a → (j : ℕ) → j < 8
    → slice_index (zip2 bit_and (words a) (replicate 8 255)) j ≡ slice_index a (2 * j)
even_at a long small j h =
    rw (get_or-zip2 bit_and (words a) (replicate 8 255) j 0 0 0 h h, get_or-replicate {A = ℕ} 8 j 255 0 h)
    (low_of _ _ _ (byte_at a long small (2 * j) (omega (arith, h))) (word_at a long small j h))

pub odd_at : (a : List ℕ) → length a ≡ 16 → Each1 (λ x. x < 256) a → (j : ℕ) → j < 8
    → slice_index (zip2 (λ x n. x / 2 ^ n) (words a) (replicate 8 8)) j ≡ slice_index a (2 * j + 1)
odd_at a long small j h =
    rw (get_or-zip2 (λ x n. x / 2 ^ n) (words a) (replicate 8 8) j 0 0 0 h h, get_or-replicate {A = ℕ} 8 j 8 0 h, word_at a long small j h)
    (omega (arith, byte_at a long small (2 * j) (omega (arith, h))))

-- bytes of words that were made of two
abbrev pub made : List ℕ → List ℕ → List ℕ
made even odd = zip2 (λ x y. (x + y) % 65536) even (zip2 (λ x n. x * 2 ^ n % 65536) odd (replicate 8 8))

made_small : (even odd : List ℕ) → Each1 (λ x. x < 65536) (made even odd)
made_small even odd = Each1-zip2 (λ x y. (x + y) % 65536) (λ x. x < 65536) even _ (Each2-all _ (λ x y. omega arith) even _)

made_at : (even odd : List ℕ) → length even ≡ 8 → length odd ≡ 8 → Small even → Small odd → (j : ℕ) → j < 8
    → (get_or (made even odd) j 0 ≡ slice_index even j + 256 * slice_index odd j) × (slice_index even j ≤ 255) × (slice_index odd j ≤ 255)
made_at even odd long_e long_o small_e small_o j h =
    let le_e = Each1-get_or (λ x. x ≤ 255) even j 0 (omega (arith, long_e, h)) small_e in
    let le_o = Each1-get_or (λ x. x ≤ 255) odd j 0 (omega (arith, long_o, h)) small_o in
    let shifted = zip2 (λ x n. x * 2 ^ n % 65536) odd (replicate 8 8) in
    let long_s : length shifted ≡ 8 = rw (length-zip2 (λ x n. x * 2 ^ n % 65536) odd (replicate 8 8) (rw long_o refl)) long_o in (
      rw (
        get_or-zip2 (λ x y. (x + y) % 65536) even shifted j 0 0 0 (omega (arith, long_e, h)) (omega (arith, long_s, h)),
        get_or-zip2 (λ x n. x * 2 ^ n % 65536) odd (replicate 8 8) j 0 0 0 (omega (arith, long_o, h)) h,
        get_or-replicate {A = ℕ} 8 j 8 0 h,
      ) (omega (arith, le_e, le_o)),
      le_e,
      le_o,
    )

pub made_even : (even odd : List ℕ) → length even ≡ 8 → length odd ≡ 8 → Small even → Small odd → (j : ℕ) → j < 8
    → slice_index (digits_l 256 16 (number_l 65536 (made even odd))) (2 * j) ≡ slice_index even j
made_even even odd long_e long_o small_e small_o j h =
    let at = made_at even odd long_e long_o small_e small_o j h in
    let index : 2 * j + 0 ≡ 2 * j = omega arith in
    subst (λ i. slice_index (digits_l 256 16 (number_l 65536 (made even odd))) i ≡ slice_index even j) index
    (rw (get_or_narrower 65536 2 256 16 (made even odd) j 0 refl (made_small even odd) (omega arith) (omega (arith, h)), at.0) (omega (arith, at.1, at.2)))

pub made_odd : (even odd : List ℕ) → length even ≡ 8 → length odd ≡ 8 → Small even → Small odd → (j : ℕ) → j < 8
    → slice_index (digits_l 256 16 (number_l 65536 (made even odd))) (2 * j + 1) ≡ slice_index odd j
made_odd even odd long_e long_o small_e small_o j h =
    let at = made_at even odd long_e long_o small_e small_o j h in
    rw (get_or_narrower 65536 2 256 16 (made even odd) j 1 refl (made_small even odd) (omega arith) (omega (arith, h)), at.0) (omega (arith, at.1, at.2))

-- products of pairs
pub scaled_of : (r a f ea oa : List ℕ) → length ea ≡ 8 → length oa ≡ 8 → length f ≡ 8
    → ((j : ℕ) → j < 8 → slice_index ea j ≡ slice_index a (2 * j)) → ((j : ℕ) → j < 8 → slice_index oa j ≡ slice_index a (2 * j + 1))
    → ((j : ℕ) → j < 8 → slice_index r (2 * j) ≡ slice_index (zip2 product ea f) j) → ((j : ℕ) → j < 8 → slice_index r (2 * j + 1) ≡ slice_index (zip2 product oa f) j)
    → (k : ℕ) → k < 16 → slice_index r k ≡ product (slice_index a k) (slice_index f (k / 2))
scaled_of r a f ea oa long_e long_o long_f evens odds re ro k h =
    let j = k / 2 in
    ⊎_elim
    (λ (low : k % 2 < 1).
    let index : 2 * (k / 2) ≡ k = omega (arith, low) in
    subst (λ i. slice_index r i ≡ product (slice_index a i) (slice_index f (k / 2))) index
    (rw (re (k / 2) (omega (arith, h)), get_or-zip2 product ea f (k / 2) 0 0 0 (omega (arith, long_e, h)) (omega (arith, long_f, h)), evens (k / 2) (omega (arith, h))) refl))
    (λ (high : 1 ≤ k % 2).
    let index : 2 * (k / 2) + 1 ≡ k = omega (arith, high) in
    subst (λ i. slice_index r i ≡ product (slice_index a i) (slice_index f (k / 2))) index
    (rw (ro (k / 2) (omega (arith, h)), get_or-zip2 product oa f (k / 2) 0 0 0 (omega (arith, long_o, h)) (omega (arith, long_f, h)), odds (k / 2) (omega (arith, h))) refl))
    (cases_lt (k % 2) 1)

-- what an alpha leaves
pub left_one : (r a : List ℕ) (i x : ℕ) → length r ≡ 8 → i < 8 → x ≤ 255 → slice_index r i ≡ x → (255 + (65536 - get_or (r ++ r) i 0)) % 65536 ≡ 255 - x
left_one r a i x long h le is = rw (get_or_append_left r r 0 i (omega (arith, long, h)), is) (omega (arith, le))

pub small_at : (r : List ℕ) (i : ℕ) → length r ≡ 8 → i < 8 → Small r → slice_index r i ≤ 255
small_at r i long h small = Each1-get_or (λ x. x ≤ 255) r i 0 (omega (arith, long, h)) small

-- two vectors joined channel by channel
pub joined_of : (f : ℕ → ℕ → ℕ) (r a b ea oa eb ob : List ℕ) → length ea ≡ 8 → length oa ≡ 8 → length eb ≡ 8 → length ob ≡ 8
    → ((j : ℕ) → j < 8 → slice_index ea j ≡ slice_index a (2 * j)) → ((j : ℕ) → j < 8 → slice_index oa j ≡ slice_index a (2 * j + 1))
    → ((j : ℕ) → j < 8 → slice_index eb j ≡ slice_index b (2 * j)) → ((j : ℕ) → j < 8 → slice_index ob j ≡ slice_index b (2 * j + 1))
    → ((j : ℕ) → j < 8 → slice_index r (2 * j) ≡ slice_index (zip2 f ea eb) j) → ((j : ℕ) → j < 8 → slice_index r (2 * j + 1) ≡ slice_index (zip2 f oa ob) j)
    → (k : ℕ) → k < 16 → slice_index r k ≡ f (slice_index a k) (slice_index b k)
joined_of f r a b ea oa eb ob long_ea long_oa long_eb long_ob evens_a odds_a evens_b odds_b re ro k h =
    let half : k / 2 < 8 = omega (arith, h) in
    ⊎_elim
    (λ (low : k % 2 < 1).
    let index : 2 * (k / 2) ≡ k = omega (arith, low) in
    subst (λ i. slice_index r i ≡ f (slice_index a i) (slice_index b i)) index
    (rw (re (k / 2) half, get_or-zip2 f ea eb (k / 2) 0 0 0 (omega (arith, long_ea, h)) (omega (arith, long_eb, h)), evens_a (k / 2) half, evens_b (k / 2) half) refl))
    (λ (high : 1 ≤ k % 2).
    let index : 2 * (k / 2) + 1 ≡ k = omega (arith, high) in
    subst (λ i. slice_index r i ≡ f (slice_index a i) (slice_index b i)) index
    (rw (ro (k / 2) half, get_or-zip2 f oa ob (k / 2) 0 0 0 (omega (arith, long_oa, h)) (omega (arith, long_ob, h)), odds_a (k / 2) half, odds_b (k / 2) half) refl))
    (cases_lt (k % 2) 1)
