-- Declarations with one more.
use Rattle.std.proofs.Common.{◌≡◌, ◌≢◌, ℕ, zero, suc, ◌-◌, ◌<◌, ◌≤◌, ◌==◌, Bool, true, false, ◌||◌, List, [], ◌∷◌, ◌++◌, length, Option, None, Some, refl, sym, ap, subst, ◌∙◌, arith, eqb, get_or}
use Rattle.std.proofs.lemmas.Bool.Decides.{nat_tests}
use Rattle.std.proofs.lemmas.Bool.{or_left}
use Rattle.std.proofs.lemmas.List.Elements.{All-nil, All-push, All-cons, All-head, All-tail}
use Rattle.std.proofs.lemmas.List.Folds.{list_any-append}
use Rattle.std.proofs.lemmas.List.Quantifiers.{all_pairs_push}
use Rattle.std.specs.List.{All, list_any}
use Rattle.std.specs.Prelude.{IfSome}
use Rattle.sf_script_scene.specs.Limits.{AreDeclared}
use Rattle.sf_script_scene.specs.Scene.{has_number, last_of, on_last}

-- nothing is declared
pub AreDeclared-nil : {X : Type 0} (number : X → ℕ) (Fits : X → Type 0) → AreDeclared number Fits []
AreDeclared-nil number Fits = record { each = All-nil Fits; differ = λ i j d a b. absurd (omega arith) }

-- a number that none has is another one than each has
others : {X : Type 0} (number : X → ℕ) (xs : List X) (n : ℕ) → has_number number xs n ≡ false → All (λ (x : X). number x ≢ n) xs
others number [] n h = All-nil (λ x. number x ≢ n)
others number (x ∷ xs) n h =
    All-cons (λ y. number y ≢ n) x xs (λ e. let yes : eqb (number x) n ≡ true = grind (arith, nat_tests) in let no = sym (or_left (number x == n) (list_any (λ y. number y == n) xs) yes) ∙ h in cc)
    (others number xs n (second (number x == n) (list_any (λ y. number y == n) xs) h))
  where
    second : (a b : Bool) → (a || b) ≡ false → b ≡ false
    second true b h = cc
    second false b h = h

-- one more is declared, whose number none has
pub AreDeclared-push : {X : Type 0} (number : X → ℕ) (Fits : X → Type 0) (xs : List X) (x : X) → AreDeclared number Fits xs → Fits x → has_number number xs (number x) ≡ false
    → AreDeclared number Fits (xs ++ x ∷ [])
AreDeclared-push number Fits xs x h f n = record {
  each = All-push Fits xs x h.each f;
  differ = all_pairs_push (λ a b. number a ≢ number b) xs x h.differ (others number xs (number x) n);
}

-- what is declared is declared with one more
pub has_number-push : {X : Type 0} (number : X → ℕ) (xs : List X) (x : X) (n : ℕ) → has_number number xs n ≡ true → has_number number (xs ++ x ∷ []) n ≡ true
has_number-push number xs x n h = list_any-append (λ y. number y == n) xs (x ∷ []) ∙ or_left (list_any (λ y. number y == n) xs) _ h

-- what holds of what is there, if anything is, holds by a weaker claim
pub IfSome-weaker : {X : Type 0} (P Q : X → Type 0) (o : Option X) → ((x : X) → P x → Q x) → IfSome o P → IfSome o Q
IfSome-weaker P Q None f h = h
IfSome-weaker P Q (Some x) f h = f x h

-- the last of a list that ends in x
pub on_last-push : {X : Type 0} (f : X → X) (xs : List X) (x : X) → on_last f (xs ++ x ∷ []) ≡ xs ++ f x ∷ []
on_last-push f [] x = refl
on_last-push f (y ∷ []) x = refl
on_last-push f (y ∷ z ∷ zs) x = ap (λ ys. y ∷ ys) (on_last-push f (z ∷ zs) x)

-- what holds of each holds still where the last is changed so that it does
pub All-on_last : {X : Type 0} (P Q : X → Type 0) (f : X → X) → ((x : X) → P x → Q x → P (f x)) → (xs : List X) → All P xs → IfSome (last_of xs) Q → All P (on_last f xs)
All-on_last P Q f g [] h q = All-nil P
All-on_last P Q f g (x ∷ []) h q = All-cons P (f x) [] (g x (All-head P x [] h) q) (All-nil P)
All-on_last P Q f g (x ∷ y ∷ ys) h q = All-cons P x (on_last f (y ∷ ys)) (All-head P x (y ∷ ys) h) (All-on_last P Q f g (y ∷ ys) (All-tail P x (y ∷ ys) h) q)

length-on_last : {X : Type 0} (f : X → X) (xs : List X) → length (on_last f xs) ≡ length xs
length-on_last f [] = refl
length-on_last f (x ∷ []) = refl
length-on_last f (x ∷ y ∷ ys) = ap suc (length-on_last f (y ∷ ys))

-- the numbers stay where the last is changed in something else
number-on_last : {X : Type 0} (number : X → ℕ) (f : X → X) → ((x : X) → number (f x) ≡ number x) → (xs : List X) (i : ℕ) (d : X) → number (get_or (on_last f xs) i d) ≡ number (get_or xs i d)
number-on_last number f same [] i d = refl
number-on_last number f same (x ∷ []) zero d = same x
number-on_last number f same (x ∷ []) (suc i) d = refl
number-on_last number f same (x ∷ y ∷ ys) zero d = refl
number-on_last number f same (x ∷ y ∷ ys) (suc i) d = number-on_last number f same (y ∷ ys) i d

pub has_number-on_last : {X : Type 0} (number : X → ℕ) (f : X → X) → ((x : X) → number (f x) ≡ number x) → (xs : List X) (n : ℕ) → has_number number (on_last f xs) n ≡ has_number number xs n
has_number-on_last number f same [] n = refl
has_number-on_last number f same (x ∷ []) n = ap (λ m. (m == n) || false) (same x)
has_number-on_last number f same (x ∷ y ∷ ys) n = ap (λ b. (number x == n) || b) (has_number-on_last number f same (y ∷ ys) n)

-- declarations, the last of which is changed in something else than its number
pub AreDeclared-on_last : {X : Type 0} (number : X → ℕ) (Fits Q : X → Type 0) (f : X → X) → ((x : X) → number (f x) ≡ number x) → ((x : X) → Fits x → Q x → Fits (f x)) → (xs : List X)
    → AreDeclared number Fits xs → IfSome (last_of xs) Q → AreDeclared number Fits (on_last f xs)
AreDeclared-on_last number Fits Q f same g xs h q = record {
  each = All-on_last Fits Q f g xs h.each q;
  differ = λ i j d a b e. h.differ i j d a (subst (λ (n : ℕ). j < n) (length-on_last f xs) b) (sym (number-on_last number f same xs i d) ∙ e ∙ number-on_last number f same xs j d);
}

-- what stands at the end is the last
pub last_of-is : {X : Type 0} (xs : List X) (x : X) → 1 ≤ length xs → x ≡ get_or xs (length xs - 1) x → last_of xs ≡ Some x
last_of-is [] x l h = absurd (omega arith)
last_of-is (y ∷ []) x l h = ap Some (sym h)
last_of-is (y ∷ z ∷ zs) x l h =
    let e : length (y ∷ z ∷ zs) - 1 ≡ suc (length (z ∷ zs) - 1) = omega arith in
    last_of-is (z ∷ zs) x (omega arith) (rw e at h)
