-- Passes that the first ones give, one after another.
use Rattle.std.proofs.Common.{◌≡◌, ℕ, zero, suc, ◌+◌, ◌<◌, ◌≤◌, List, [], ◌∷◌, ◌++◌, length, get_or, set, take, arith, ap, ◌∙◌, sym, refl, add-one}
use Rattle.std.specs.Prelude.{map}
use Rattle.std.specs.List.{AllByRecursion}

-- a list whose first elements are changed
pub changed : {X : Type 0} → (X → X) → ℕ → List X → List X
changed f zero xs = xs
changed f (suc k) [] = []
changed f (suc k) (x ∷ xs) = f x ∷ changed f k xs

pub none_changed : {X : Type 0} (f : X → X) (xs : List X) → changed f 0 xs ≡ xs
unfolding changed
none_changed f xs = refl

pub all_changed : {X : Type 0} (f : X → X) (xs : List X) (k : ℕ) → k ≡ length xs → changed f k xs ≡ map f xs
unfolding changed
all_changed f [] zero e = refl
all_changed f [] (suc k) e = refl
all_changed f (x ∷ xs) zero e = absurd (omega (arith, e))
all_changed f (x ∷ xs) (suc k) e = ap (λ ys. f x ∷ ys) (all_changed f xs k (omega (arith, e)))

pub changed_long : {X : Type 0} (f : X → X) (xs : List X) (k : ℕ) → length (changed f k xs) ≡ length xs
unfolding changed
changed_long f xs zero = refl
changed_long f [] (suc k) = refl
changed_long f (x ∷ xs) (suc k) = let rest = changed_long f xs k in omega (arith, rest)

pub changed_at : {X : Type 0} (f : X → X) (xs : List X) (k : ℕ) (d : X) → get_or (changed f k xs) k d ≡ get_or xs k d
unfolding changed
changed_at f xs zero d = refl
changed_at f [] (suc k) d = refl
changed_at f (x ∷ xs) (suc k) d = changed_at f xs k d

next_changed : {X : Type 0} (f : X → X) (xs : List X) (k : ℕ) (d : X) → k < length xs → set (changed f k xs) k (f (get_or xs k d)) ≡ changed f (suc k) xs
unfolding changed
next_changed f [] k d low = absurd (omega (arith, low))
next_changed f (x ∷ xs) zero d low = refl
next_changed f (x ∷ xs) (suc k) d low = ap (λ ys. f x ∷ ys) (next_changed f xs k d (omega (arith, low)))

next_given : {X Y : Type 0} (f : X → Y) (xs : List X) (k : ℕ) (d : X) → k < length xs → map f (take k xs) ++ f (get_or xs k d) ∷ [] ≡ map f (take (suc k) xs)
next_given f [] k d low = absurd (omega (arith, low))
next_given f (x ∷ xs) zero d low = refl
next_given f (x ∷ xs) (suc k) d low = ap (λ ys. f x ∷ ys) (next_given f xs k d (omega (arith, low)))

pub by_place : {X : Type 0} (P : X → Type 0) (xs : List X) (k : ℕ) (d : X) → AllByRecursion P xs → k < length xs → P (get_or xs k d)
by_place P [] k d all low = absurd (omega (arith, low))
by_place P (x ∷ xs) zero d all low = all.0
by_place P (x ∷ xs) (suc k) d all low = by_place P xs k d all.1 (omega (arith, low))

-- the first elements were changed, and for each of them another was given
pub record SoFar {X : Type 0} (f g : X → X) (old now given : List X) (place : ℕ) : Type 0 where
  pub now_is : now ≡ changed f place old
  pub given_is : given ≡ map g (take place old)
  pub within : place ≤ length old

pub starts : {X : Type 0} (f g : X → X) (old given : List X) → given ≡ [] → SoFar f g old old given 0
starts f g old given none = record { now_is = sym (none_changed f old); given_is = none; within = omega arith }

pub same_there : {X : Type 0} (f g : X → X) (old now given : List X) (place : ℕ) (d : X) → SoFar f g old now given place → get_or now place d ≡ get_or old place d
same_there f g old now given place d so = ap (λ xs. get_or xs place d) so.now_is ∙ changed_at f old place d

pub goes_on : {X : Type 0} (f g : X → X) (old now given : List X) (place : ℕ) (d next another : X) (after : List X) → SoFar f g old now given place → place < length old → next ≡ f (get_or now place d) → another ≡ g (get_or now place d) → after ≡ given ++ another ∷ [] → SoFar f g old (set now place next) after (place + 1)
goes_on f g old now given place d next another after so low is_next is_other pushed =
    let here = same_there f g old now given place d so in
    record {
      now_is =
          ap (λ xs. set xs place next) so.now_is ∙ ap (λ x. set (changed f place old) place x) (is_next ∙ ap f here) ∙ next_changed f old place d low
          ∙ ap (λ k. changed f k old) (sym (add-one place));
      given_is =
          pushed ∙ ap (λ xs. xs ++ another ∷ []) so.given_is ∙ ap (λ x. map g (take place old) ++ x ∷ []) (is_other ∙ ap g here) ∙ next_given g old place d low
          ∙ ap (λ k. map g (take k old)) (sym (add-one place));
      within = omega (arith, low);
    }

take_whole : {X : Type 0} (xs : List X) → take (length xs) xs ≡ xs
take_whole [] = refl
take_whole (x ∷ xs) = ap (λ ys. x ∷ ys) (take_whole xs)

pub ends : {X : Type 0} (f g : X → X) (old now given : List X) (place : ℕ) → SoFar f g old now given place → length old ≤ place → (now ≡ map f old) × (given ≡ map g old)
ends f g old now given place so high =
    let w = so.within in
    let long : place ≡ length old = omega (arith, w, high) in
    (so.now_is ∙ all_changed f old place long, so.given_is ∙ ap (λ xs. map g xs) (ap (λ k. take k old) long ∙ take_whole old))
