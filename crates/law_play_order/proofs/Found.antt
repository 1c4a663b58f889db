-- Moments of a log, by their kinds and places, and which of two is the older one.
use Rattle.std.proofs.Common.{◌≡◌, ℕ, ◌+◌, ◌<◌, ◌≤◌, Bool, true, false, ◌==◌, ◌&&◌, List, [], ◌∷◌, length, refl, sym, ap, subst, ◌∙◌, inl, inr, arith}
use Rattle.std.proofs.lemmas.Bool.{cases_lt}
use Rattle.std.proofs.lemmas.Bool.Decides.{nat_tests}
use Rattle.std.specs.Prelude.{◌⊎◌}
use Rattle.std.specs.List.{AllByRecursion}
use Rattle.law_play_order.proofs.Logs.{AreNumbered, Follows, IsEnd, IsNumber, IsTimely, Moment, bit, count, number_of}

-- the moment of a kind at a place
pub record Found (kind : Moment → Bool) (place : ℕ) (log : List Moment) : Type 0 where
  pub at : Moment
  pub older : List Moment
  pub end : IsEnd (at ∷ older) log
  pub is : kind at ≡ true
  pub many : count kind older ≡ place
  pub numbered : number_of kind place log ≡ length older + 1

other_place : (kind : Moment → Bool) (place : ℕ) (m : Moment) (log : List Moment) → (kind m && (count kind log == place)) ≡ false → Found kind place log → Found kind place (m ∷ log)
other_place kind place m log unlike f = record { at = f.at; older = f.older; end = inr f.end; is = f.is; many = f.many; numbered = rw unlike f.numbered }

this_place : (kind : Moment → Bool) (place : ℕ) (m : Moment) (log : List Moment) → kind m ≡ true → count kind log ≡ place → Found kind place (m ∷ log)
this_place kind place m log is many =
    let here : (count kind log == place) ≡ true = grind (arith, nat_tests, many) in
    record { at = m; older = log; end = inl refl; is = is; many = many; numbered = rw (is, here) refl }

still_to_come : (kind : Moment → Bool) (place : ℕ) (m : Moment) (log : List Moment) (b : Bool) → kind m ≡ b → place < bit b + count kind log → (b ≡ true → count kind log ≡ place → ⊥) → place < count kind log
still_to_come kind place m log true e low unlike = elim (cases_lt place (count kind log)) [
  | inl less ↦ less
  | inr more ↦ absurd (unlike refl (omega (arith, low, more)))
]
still_to_come kind place m log false e low unlike = omega (arith, low)

here_or_older : (kind : Moment → Bool) (place : ℕ) (m : Moment) (log : List Moment) → place < bit (kind m) + count kind log → (place < count kind log → Found kind place log)
    → (b c : Bool) → kind m ≡ b → (count kind log == place) ≡ c → Found kind place (m ∷ log)
here_or_older kind place m log low rest true true e f = this_place kind place m log e (grind (arith, nat_tests, f))
here_or_older kind place m log low rest true false e f =
    let other : (kind m && (count kind log == place)) ≡ false = rw (e, f) refl in
    let less : place < count kind log = still_to_come kind place m log true e (subst (λ b. place < bit b + count kind log) e low) (λ t same. unequal (count kind log) place f same) in
    other_place kind place m log other (rest less)
  where
    unequal : (n k : ℕ) → (n == k) ≡ false → n ≡ k → ⊥
    unequal n k unlike same = grind (arith, nat_tests, unlike, same)
here_or_older kind place m log low rest false c e f =
    let other : (kind m && (count kind log == place)) ≡ false = rw e refl in
    let less : place < count kind log = still_to_come kind place m log false e (subst (λ b. place < bit b + count kind log) e low) (λ t same. cc (t)) in
    other_place kind place m log other (rest less)

pub find_at : (kind : Moment → Bool) (place : ℕ) (log : List Moment) → place < count kind log → Found kind place log
find_at kind place [] low = absurd (omega (arith, low))
find_at kind place (m ∷ log) low = here_or_older kind place m log low (find_at kind place log) (kind m) (count kind log == place) refl refl

head_of : List Moment → Moment → Moment
head_of [] m = m
head_of (x ∷ xs) m = x

tail_of : List Moment → List Moment
tail_of [] = []
tail_of (x ∷ xs) = xs

pub head_is : (a m : Moment) (xs log : List Moment) → (a ∷ xs) ≡ (m ∷ log) → a ≡ m
unfolding head_of
head_is a m xs log e = ap (λ (l : List Moment). head_of l m) e

pub tail_is : (a m : Moment) (xs log : List Moment) → (a ∷ xs) ≡ (m ∷ log) → xs ≡ log
unfolding tail_of
tail_is a m xs log e = ap tail_of e

pub end_shorter : (a : Moment) (xs log : List Moment) → IsEnd (a ∷ xs) log → length xs + 1 ≤ length log
end_shorter a xs [] e = absurd (cc (e))
end_shorter a xs (m ∷ log) (inl e) = let same : length (a ∷ xs) ≡ length (m ∷ log) = ap length e in omega (arith, same)
end_shorter a xs (m ∷ log) (inr h) = let rest = end_shorter a xs log h in omega (arith, rest)

pub end_fewer : (kind : Moment → Bool) (a : Moment) (xs log : List Moment) → kind a ≡ true → IsEnd (a ∷ xs) log → count kind xs + 1 ≤ count kind log
end_fewer kind a xs [] is e = absurd (cc (e))
end_fewer kind a xs (m ∷ log) is (inl e) =
    let same : count kind (a ∷ xs) ≡ count kind (m ∷ log) = ap (count kind) e in
    let one : bit (kind a) ≡ 1 = rw is refl in
    omega (arith, same, one)
end_fewer kind a xs (m ∷ log) is (inr h) = let rest = end_fewer kind a xs log is h in omega (arith, rest)

-- which of two moments is the older one
pub compare : (a b : Moment) (xs ys log : List Moment) → IsEnd (a ∷ xs) log → IsEnd (b ∷ ys) log → IsEnd (a ∷ xs) ys ⊎ (((a ∷ xs) ≡ (b ∷ ys)) ⊎ IsEnd (b ∷ ys) xs)
compare a b xs ys [] e f = absurd (cc (e))
compare a b xs ys (m ∷ log) (inl e) (inl f) = inr (inl (e ∙ sym f))
compare a b xs ys (m ∷ log) (inl e) (inr h) = inr (inr (subst (IsEnd (b ∷ ys)) (sym (tail_is a m xs log e)) h))
compare a b xs ys (m ∷ log) (inr h) (inl f) = inl (subst (IsEnd (a ∷ xs)) (sym (tail_is b m ys log f)) h)
compare a b xs ys (m ∷ log) (inr h) (inr k) = compare a b xs ys log h k

-- what holds of a list's moments holds of one in it
pub member : (P : Moment → Type 0) (a : Moment) (xs log : List Moment) → AllByRecursion P log → IsEnd (a ∷ xs) log → P a
member P a xs [] all e = absurd (cc (e))
member P a xs (m ∷ log) all (inl e) = subst P (sym (head_is a m xs log e)) all.0
member P a xs (m ∷ log) all (inr h) = member P a xs log all.1 h

pub timely_at : (b : Moment) (ys log : List Moment) → IsTimely log → IsEnd (b ∷ ys) log → AllByRecursion (Follows b) ys
timely_at b ys [] timely e = absurd (cc (e))
timely_at b ys (m ∷ log) timely (inl e) = (subst IsTimely (sym e) timely).0
timely_at b ys (m ∷ log) timely (inr h) = timely_at b ys log timely.1 h

pub number_at : (b : Moment) (ys log : List Moment) → AreNumbered log → IsEnd (b ∷ ys) log → IsNumber b ys
number_at b ys [] numbered e = absurd (cc (e))
number_at b ys (m ∷ log) numbered (inl e) = (subst AreNumbered (sym e) numbered).0
number_at b ys (m ∷ log) numbered (inr h) = number_at b ys log numbered.1 h
