-- The least free numbers, one after another.
use Rattle.std.proofs.Common.{◌≡◌, ℕ, zero, suc, ◌+◌, ◌-◌, ◌<◌, ◌≤◌, Bool, true, false, not, ◌||◌, List, [], ◌∷◌, ◌++◌, length, refl, ap, ◌∙◌, sym, subst, arith}
use Rattle.std.specs.List.{list_any}
use Rattle.std.specs.Prelude.{◌==◌, if◌then◌else◌}
use Rattle.std.proofs.lemmas.Bool.{cases_eq, eq-eqb, eqb-true}
use Rattle.std.proofs.Math.Seq.{drop-cons}
use Rattle.std.proofs.Common.{drop, get_or, append_assoc, append-nil, inl, inr, replicate}
use Rattle.std.proofs.lemmas.List.{drop_all, get_or-replicate, length-replicate}
use Rattle.sf_base.specs.declared.ids.LayerId.{LayerId}
use Rattle.sf_output_shown.specs.sf_layer.declared.layer.Layer.{Layer}
use Rattle.sf_output_shown.specs.Copies.{IsLeastFree, free_from, is_free, is_taken_by, least_free, named}
use Rattle.sf_mirror.specs.inner.Marks.{AreMarks}

-- a search that begins lower finds the same
skips : (taken : List LayerId) (steps from number : ℕ) → number < from + steps → from ≤ number → is_free taken number ≡ true → ((k : ℕ) → from ≤ k → k < number → is_free taken k ≡ false) → free_from taken steps from ≡ number
skips taken zero from number inside low free below = absurd (omega arith)
skips taken (suc steps) from number inside low free below = by_order (number - from) refl (skips taken steps (from + 1) number)
  where
    by_order : (far : ℕ) → number - from ≡ far
        → (number < (from + 1) + steps → from + 1 ≤ number → is_free taken number ≡ true → ((k : ℕ) → from + 1 ≤ k → k < number → is_free taken k ≡ false) → free_from taken steps (from + 1) ≡ number)
        → free_from taken (suc steps) from ≡ number
    by_order zero e onward =
        let same : number ≡ from = omega arith in
        let here : is_free taken from ≡ true = subst (λ (n : ℕ). is_free taken n ≡ true) same free in
        rw here (sym same)
    by_order (suc far) e onward =
        let taken_here : is_free taken from ≡ false = below from (omega arith) (omega arith) in
        rw taken_here (onward (omega arith) (omega arith) free (λ k l h. below k (omega arith) h))

pub least-is : (taken : List LayerId) (number : ℕ) → IsLeastFree taken number → least_free taken ≡ number
unfolding least_free
least-is taken number is =
    let high = is.high in
    skips taken (length taken + 1) 1 number (omega arith) is.low is.free is.below

-- what is taken stays so, and so does the number that was given last
any-front : (number : ℕ) (xs : List LayerId) (x : LayerId) → list_any (is_taken_by number) xs ≡ true → list_any (is_taken_by number) (xs ++ x ∷ []) ≡ true
any-front number [] x h = cc
any-front number (y ∷ ys) x h = by_test (is_taken_by number y) h (any-front number ys x)
  where
    by_test : (b : Bool) → (b || list_any (is_taken_by number) ys) ≡ true → (list_any (is_taken_by number) ys ≡ true → list_any (is_taken_by number) (ys ++ x ∷ []) ≡ true) → (b || list_any (is_taken_by number) (ys ++ x ∷ [])) ≡ true
    by_test true h ih = refl
    by_test false h ih = ih h

any-back : (number : ℕ) (xs : List LayerId) → list_any (is_taken_by number) (xs ++ record { 0 = number } ∷ []) ≡ true
any-back number [] = rw (eq-eqb number number refl) refl
any-back number (y ∷ ys) = by_test (is_taken_by number y) (any-back number ys)
  where
    by_test : (b : Bool) → list_any (is_taken_by number) (ys ++ record { 0 = number } ∷ []) ≡ true → (b || list_any (is_taken_by number) (ys ++ record { 0 = number } ∷ [])) ≡ true
    by_test true ih = refl
    by_test false ih = ih

not-false : (b : Bool) → not b ≡ false → b ≡ true
not-false true h = refl
not-false false h = cc

pub still_taken : (taken : List LayerId) (number : ℕ) → ((k : ℕ) → 1 ≤ k → k < number → is_free taken k ≡ false) → (k : ℕ) → 1 ≤ k → k < number + 1 → is_free (taken ++ record { 0 = number } ∷ []) k ≡ false
still_taken taken number below k low high = by_order (number - k) refl
  where
    by_order : (far : ℕ) → number - k ≡ far → is_free (taken ++ record { 0 = number } ∷ []) k ≡ false
    by_order zero e =
        let same : k ≡ number = omega arith in
        subst (λ (n : ℕ). is_free (taken ++ record { 0 = number } ∷ []) n ≡ false) (sym same) (ap not (any-back number taken))
    by_order (suc far) e = ap not (any-front k taken (record { 0 = number }) (not-false (list_any (is_taken_by k) taken) (below k low (omega arith))))

-- nothing is taken
pub no_marks : AreMarks [] (replicate 9218 false)
no_marks = record {
  long = length-replicate 9218 false;
  marked = λ number inside. let long = length-replicate 9218 false in get_or-replicate 9218 number false false (omega (arith, long, inside));
}

-- without the first that has this number
without_number : ℕ → List LayerId → List LayerId
without_number number [] = []
without_number number (x ∷ xs) = if x.0 == number then xs else x ∷ without_number number xs

one_less : (number : ℕ) (xs : List LayerId) → list_any (is_taken_by number) xs ≡ true → length (without_number number xs) + 1 ≡ length xs
unfolding without_number
one_less number [] h = cc
one_less number (x ∷ xs) h = by_test (x.0 == number) h (one_less number xs)
  where
    by_test : (b : Bool) → (b || list_any (is_taken_by number) xs) ≡ true → (list_any (is_taken_by number) xs ≡ true → length (without_number number xs) + 1 ≡ length xs) → length (if b then xs else x ∷ without_number number xs) + 1 ≡ length (x ∷ xs)
    by_test true h ih = omega arith
    by_test false h ih = omega (arith, ih h)

others_stay : (number k : ℕ) (xs : List LayerId) → k < number → list_any (is_taken_by k) xs ≡ true → list_any (is_taken_by k) (without_number number xs) ≡ true
unfolding without_number
others_stay number k [] low h = h
others_stay number k (x ∷ xs) low h = by_tests (x.0 == number) (x.0 == k) refl refl h (others_stay number k xs low)
  where
    by_tests : (a b : Bool) → (x.0 == number) ≡ a → (x.0 == k) ≡ b → (b || list_any (is_taken_by k) xs) ≡ true → (list_any (is_taken_by k) xs ≡ true → list_any (is_taken_by k) (without_number number xs) ≡ true) → list_any (is_taken_by k) (if a then xs else x ∷ without_number number xs) ≡ true
    by_tests true true p q h ih =
        let one : x.0 ≡ number = eqb-true x.0 number p in
        let two : x.0 ≡ k = eqb-true x.0 k q in
        absurd (omega arith)
    by_tests true false p q h ih = h
    by_tests false true p q h ih = rw q refl
    by_tests false false p q h ih = rw q (ih h)

-- numbers that are taken are no more than what takes them
pub few_taken : (number : ℕ) (taken : List LayerId) → ((k : ℕ) → 1 ≤ k → k < number + 1 → is_free taken k ≡ false) → number ≤ length taken
few_taken zero taken below = omega arith
few_taken (suc number) taken below =
    let here : list_any (is_taken_by (suc number)) taken ≡ true = not-false _ (below (suc number) (omega arith) (omega arith)) in
    let fewer : number ≤ length (without_number (suc number) taken) = few_taken number (without_number (suc number) taken)
    (λ k low high. ap not (others_stay (suc number) k taken (omega arith) (not-false _ (below k low (omega arith))))) in
    omega (arith, fewer, one_less (suc number) taken here)

-- a search goes on where a number is taken
pub one_further : (taken : List LayerId) (number : ℕ) → ((k : ℕ) → 1 ≤ k → k < number → is_free taken k ≡ false) → is_free taken number ≡ false → (k : ℕ) → 1 ≤ k → k < number + 1 → is_free taken k ≡ false
one_further taken number below here k low high = elim (cases_eq k number) [
  | inl same ↦ subst (λ (n : ℕ). is_free taken n ≡ false) (sym same) here
  | inr apart ↦ below k low (omega (arith, high, apart))
]

-- one more layer is named
pub named_one : (names : List (LayerId × LayerId)) (taken : List LayerId) (layers : List Layer) (i next number : ℕ) (d : Layer) (all : List (LayerId × LayerId)) → next ≡ suc i → i < length layers → IsLeastFree taken number
    → names ++ named taken (drop i layers) ≡ all → (names ++ ((get_or layers i d).number, record { 0 = number }) ∷ []) ++ named (taken ++ record { 0 = number } ∷ []) (drop next layers) ≡ all
unfolding named
named_one names taken layers i next number d all is inside least so_far =
    let later : List LayerId → List (LayerId × LayerId) = λ ids. named ids (drop (suc i) layers) in
    append_assoc names (((get_or layers i d).number, record { 0 = number }) ∷ []) (named (taken ++ record { 0 = number } ∷ []) (drop next layers))
    ∙ ((λ j. names ++ ((get_or layers i d).number, record { 0 = number }) ∷ named (taken ++ record { 0 = number } ∷ []) (drop (is j) layers))
    ∙ ((λ j. names ++ ((get_or layers i d).number, record { 0 = sym (least-is taken number least) j }) ∷ later (taken ++ record { 0 = sym (least-is taken number least) j } ∷ []))
    ∙ (ap (λ (l : List Layer). names ++ named taken l) (sym (drop-cons layers i d inside)) ∙ so_far)))

pub named_all : (names : List (LayerId × LayerId)) (taken : List LayerId) (layers : List Layer) (i : ℕ) (all : List (LayerId × LayerId)) → length layers ≤ i → names ++ named taken (drop i layers) ≡ all → names ≡ all
unfolding named
named_all names taken layers i all done so_far = sym (append-nil names) ∙ (ap (λ (l : List Layer). names ++ named taken l) (sym (drop_all i layers done)) ∙ so_far)
