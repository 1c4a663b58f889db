-- Intervals cut to other intervals.
use Rattle.std.proofs.Common.{◌≡◌, ℕ, Bool, true, false, ◌&&◌, refl, ap, sym, arith, ℤ, pos, ◌+ℤ◌, ◌≤ℤ◌}
use Rattle.std.specs.Int.{int_max, int_min}
use Rattle.std.specs.Prelude.{int_le, int_lt}
use Rattle.sf_view.specs.declared.interval.Interval.{Interval}
use Rattle.sf_base.specs.Geometry.{is_within}
use Rattle.sf_view.specs.inner.Intervals.{is_in_interval, HasExtent}
use Rattle.std.proofs.lemmas.Int.{clamps, ints}
use Rattle.std.proofs.lemmas.Bool.{true_from_ne_false}

pub bools_same : (a b : Bool) → (a ≡ true → b ≡ true) → (b ≡ true → a ≡ true) → a ≡ b
bools_same true true p q = refl
bools_same true false p q = sym (p refl)
bools_same false true p q = q refl
bools_same false false p q = refl

pub and_left : (a b : Bool) → (a && b) ≡ true → a ≡ true
and_left true b h = refl
and_left false b h = h

pub and_right : (a b : Bool) → (a && b) ≡ true → b ≡ true
and_right true b h = h
and_right false b h = cc

pub both_true : (a b : Bool) → a ≡ true → b ≡ true → (a && b) ≡ true
both_true a b p q = rw (p, q) refl

int_le-max : (a b at : ℤ) → int_le (int_max a b) at ≡ (int_le a at && int_le b at)
int_le-max a b at = bools_same _ _
    (λ h. both_true _ _ (true_from_ne_false (int_le a at) (λ f. omega (arith, ints, clamps, h, f))) (true_from_ne_false (int_le b at) (λ f. omega (arith, ints, clamps, h, f))))
    (λ h. let p : int_le a at ≡ true = and_left (int_le a at) (int_le b at) h in let q : int_le b at ≡ true = and_right (int_le a at) (int_le b at) h in true_from_ne_false (int_le (int_max a b) at) (λ f. omega (arith, ints, clamps, p, q, f)))

int_lt-min : (a b at : ℤ) → int_lt at (int_min a b) ≡ (int_lt at a && int_lt at b)
int_lt-min a b at = bools_same _ _
    (λ h. both_true _ _ (true_from_ne_false (int_lt at a) (λ f. omega (arith, ints, clamps, h, f))) (true_from_ne_false (int_lt at b) (λ f. omega (arith, ints, clamps, h, f))))
    (λ h. let p : int_lt at a ≡ true = and_left (int_lt at a) (int_lt at b) h in let q : int_lt at b ≡ true = and_right (int_lt at a) (int_lt at b) h in true_from_ne_false (int_lt at (int_min a b)) (λ f. omega (arith, ints, clamps, p, q, f)))

pub swapped : (a b c d : Bool) → ((a && b) && (c && d)) ≡ ((a && c) && (b && d))
swapped true true true d = refl
swapped true true false d = refl
swapped true false true d = refl
swapped true false false d = refl
swapped false b c d = refl

-- a interval cut to another
pub interval_cut : (from to start end at : ℤ) → (int_le (int_max from start) at && int_lt at (int_min to end)) ≡ ((int_le from at && int_lt at to) && (int_le start at && int_lt at end))
interval_cut from to start end at = rw (int_le-max from start at, int_lt-min to end at) (swapped (int_le from at) (int_le start at) (int_lt at to) (int_lt at end))

pub from-max : (a b : ℤ) → a ≤ℤ int_max a b
from-max a b = omega (arith, ints, clamps)

pub to-min : (a b : ℤ) → int_min a b ≤ℤ a
to-min a b = omega (arith, ints, clamps)

pub ruleset intervals = (interval_cut, from-max, to-min)

int_lt-same : (a b at : ℤ) → a ≤ℤ b → b ≤ℤ a → int_lt at a ≡ int_lt at b
int_lt-same a b at p q = bools_same _ _
    (λ h. true_from_ne_false (int_lt at b) (λ f. omega (arith, ints, h, f)))
    (λ h. true_from_ne_false (int_lt at a) (λ f. omega (arith, ints, h, f)))

-- a interval as a start and an extent
pub interval_extent : (interval : Interval) (n : ℕ) (at : ℤ) → HasExtent interval n → is_within interval.from n at ≡ is_in_interval interval at
interval_extent interval n at e = by_test (int_lt interval.from interval.to) refl
  where
    by_test : (b : Bool) → int_lt interval.from interval.to ≡ b → is_within interval.from n at ≡ is_in_interval interval at
    by_test true t = ap (λ b. int_le interval.from at && b) (int_lt-same (interval.from +ℤ pos n) interval.to at (e.below t) (e.above t))
    by_test false t =
        let none : n ≡ 0 = e.none t in
        bools_same _ _
        (λ h. let p : int_le interval.from at ≡ true = and_left _ _ h in let q : int_lt at (interval.from +ℤ pos n) ≡ true = and_right _ _ h in absurd (omega (arith, ints, none, p, q)))
        (λ h. let p : int_le interval.from at ≡ true = and_left _ _ h in let q : int_lt at interval.to ≡ true = and_right _ _ h in absurd (omega (arith, ints, t, p, q)))
