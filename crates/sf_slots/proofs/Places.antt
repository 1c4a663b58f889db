-- What changes of slots make of the list of all slots.
use Rattle.std.proofs.Common.{◌≡◌, ℕ, ◌+◌, ◌<◌, ◌≤◌, suc, zero, ◌==◌, List, [], ◌∷◌, get_or, set, arith, refl, map}
use Rattle.std.proofs.lemmas.Bool.Decides.{nat_tests}
use Rattle.std.specs.Prelude.{if◌then◌else◌}
use Rattle.std.specs.List.{range_with_len}

-- a function of each number, on the numbers from one on
pub same_from : {A : Type 0} (f g : ℕ → A) (a n : ℕ) → ((u : ℕ) → a ≤ u → u < a + n → g u ≡ f u) → map g (range_with_len a n) ≡ map f (range_with_len a n)
same_from f g a zero same = refl
same_from f g a (suc n) same =
    let here = same a (omega arith) (omega arith) in
    let there = same_from f g (a + 1) n (λ u low high. same u (omega arith) (omega arith)) in
    cc

-- one place of a list changes, and so does the function that it shows
pub set_at : {A : Type 0} (f g : ℕ → A) (change : A → A) (d : A) (t s a n : ℕ) → t ≡ a + s → ((u : ℕ) → g u ≡ (if t == u then change (f u) else f u)) → set (map f (range_with_len a n)) s (change (get_or (map f (range_with_len a n)) s d)) ≡ map g (range_with_len a n)
set_at f g change d t s a zero place each = refl
set_at f g change d t zero a (suc n) place each =
    let here : g a ≡ change (f a) = grind (arith, nat_tests, each a) in
    let there : map g (range_with_len (a + 1) n) ≡ map f (range_with_len (a + 1) n) = same_from f g (a + 1) n (λ u low high. grind (arith, nat_tests, each u)) in
    cc
set_at f g change d t (suc s) a (suc n) place each =
    let here : g a ≡ f a = grind (arith, nat_tests, each a) in
    let there = set_at f g change d t s (a + 1) n (omega arith) each in
    cc

-- every place changes
pub map_each : {A B : Type 0} (f : ℕ → A) (g : ℕ → B) (change : A → B) (xs : List ℕ) → ((u : ℕ) → g u ≡ change (f u)) → map change (map f xs) ≡ map g xs
map_each f g change [] each = refl
map_each f g change (x ∷ xs) each =
    let here = each x in
    let there = map_each f g change xs each in
    cc

-- every place changes, on the numbers from one on
pub map_from : {A B : Type 0} (f : ℕ → A) (g : ℕ → B) (change : A → B) (a n : ℕ) → ((u : ℕ) → a ≤ u → u < a + n → g u ≡ change (f u)) → map change (map f (range_with_len a n)) ≡ map g (range_with_len a n)
map_from f g change a zero each = refl
map_from f g change a (suc n) each =
    let here = each a (omega arith) (omega arith) in
    let there = map_from f g change (a + 1) n (λ u low high. each u (omega arith) (omega arith)) in
    cc
