-- Lists without their first item that passes a test.
use Rattle.std.proofs.Common.{◌≡◌, ℕ, zero, suc, ◌+◌, ◌<◌, ◌≤◌, Bool, true, false, cond, List, [], ◌∷◌, length, get_or, map, Some, None, refl, ap, ◌∙◌, sym, arith}
use Rattle.std.specs.Prelude.{nat_lt}
use Rattle.std.specs.List.{All, find, position, position_or_len, remove, slice_get}
use Rattle.std.proofs.lemmas.List.Folds.{find_at}
use Rattle.std.proofs.lemmas.List.Elements.{All-tail, All-head, All-cons}
use Rattle.std.proofs.lemmas.Option.{slice_get_past}
use Rattle.std.proofs.lemmas.Grind.{common_steps}
use Rattle.sf_txn.specs.Transactions.{without_first}

some_is : (n l k : ℕ) → Some k ≡ cond (nat_lt n l) (Some n) None → k ≡ n
some_is n l k h = grind (arith, common_steps)

some_inside : (n l k : ℕ) → Some k ≡ cond (nat_lt n l) (Some n) None → k < l
some_inside n l k h = grind (arith, common_steps)

none_is : (n l : ℕ) → None ≡ cond (nat_lt n l) (Some n) None → l ≤ n
none_is n l h = grind (arith, common_steps)

remove-cons : {X : Type 0} (x : X) (xs : List X) (k : ℕ) → remove (x ∷ xs) (1 + k) ≡ x ∷ remove xs k
remove-cons x xs k = let next : 1 + k ≡ suc k = omega arith in rw next refl

without_first-place : {X : Type 0} (test : X → Bool) (xs : List X) → without_first test xs ≡ remove xs (position_or_len test xs)
without_first-place test [] = refl
without_first-place test (x ∷ xs) = by_test (test x) refl (without_first-place test xs)
  where
    by_test : (b : Bool) → test x ≡ b → without_first test xs ≡ remove xs (position_or_len test xs) → without_first test (x ∷ xs) ≡ remove (x ∷ xs) (position_or_len test (x ∷ xs))
    by_test true e h = rw e refl
    by_test false e h = rw e (ap (λ ys. x ∷ ys) h ∙ sym (remove-cons x xs _))

remove-past : {X : Type 0} (xs : List X) (k : ℕ) → length xs ≤ k → remove xs k ≡ xs
remove-past [] k h = grind (arith, common_steps)
remove-past (x ∷ xs) zero h = absurd (omega arith)
remove-past (x ∷ xs) (suc k) h = ap (λ ys. x ∷ ys) (remove-past xs k (omega arith))

slice_get-inside : {X : Type 0} (xs : List X) (k : ℕ) (d : X) → k < length xs → slice_get xs k ≡ Some (get_or xs k d)
slice_get-inside [] k d h = absurd (omega arith)
slice_get-inside (x ∷ xs) zero d h = refl
slice_get-inside (x ∷ xs) (suc k) d h = slice_get-inside xs k d (omega arith)

-- where no item passes, all stay, and none is found
pub without_first-None : {X : Type 0} (test : X → Bool) (xs : List X) → None ≡ position test xs → without_first test xs ≡ xs
without_first-None test xs e = without_first-place test xs ∙ remove-past xs _ (none_is _ _ e)

pub find-None : {X : Type 0} (test : X → Bool) (xs : List X) → None ≡ position test xs → find test xs ≡ None
find-None test xs e = find_at test xs ∙ slice_get_past xs _ (none_is _ _ e)

-- the item at the place goes, and is the one that is found
pub without_first-Some : {X : Type 0} (test : X → Bool) (xs : List X) (k : ℕ) → Some k ≡ position test xs → without_first test xs ≡ remove xs k
without_first-Some test xs k e = without_first-place test xs ∙ ap (remove xs) (sym (some_is _ _ k e))

pub find-Some : {X : Type 0} (test : X → Bool) (xs : List X) (k : ℕ) (d : X) → Some k ≡ position test xs → find test xs ≡ Some (get_or xs k d)
find-Some test xs k d e = find_at test xs ∙ (ap (slice_get xs) (sym (some_is _ _ k e)) ∙ slice_get-inside xs k d (some_inside _ _ k e))

-- what all items keep is kept, and there are no more
pub All-without_first : {X : Type 0} (P : X → Type 0) (test : X → Bool) (xs : List X) → All P xs → All P (without_first test xs)
All-without_first P test [] h = h
All-without_first P test (x ∷ xs) h = by_test (test x) refl (All-without_first P test xs (All-tail P x xs h))
  where
    by_test : (b : Bool) → test x ≡ b → All P (without_first test xs) → All P (without_first test (x ∷ xs))
    by_test true e rest = rw e (All-tail P x xs h)
    by_test false e rest = rw e (All-cons P x (without_first test xs) (All-head P x xs h) rest)

pub length-without_first : {X : Type 0} (test : X → Bool) (xs : List X) → length (without_first test xs) ≤ length xs
length-without_first test [] = omega arith
length-without_first test (x ∷ xs) = by_test (test x) refl (length-without_first test xs)
  where
    by_test : (b : Bool) → test x ≡ b → length (without_first test xs) ≤ length xs → length (without_first test (x ∷ xs)) ≤ length (x ∷ xs)
    by_test true e h = rw e (omega arith)
    by_test false e h = rw e (omega arith)

-- the first goes before a mapping or after it
pub map-without_first : {X Y : Type 0} (test : Y → Bool) (f : X → Y) (xs : List X) → map f (without_first (λ x. test (f x)) xs) ≡ without_first test (map f xs)
map-without_first test f [] = refl
map-without_first test f (x ∷ xs) = by_test (test (f x)) refl (map-without_first test f xs)
  where
    by_test : (b : Bool) → test (f x) ≡ b → map f (without_first (λ y. test (f y)) xs) ≡ without_first test (map f xs) → map f (without_first (λ y. test (f y)) (x ∷ xs)) ≡ without_first test (map f (x ∷ xs))
    by_test true e h = rw e refl
    by_test false e h = rw e (ap (λ ys. f x ∷ ys) h)
