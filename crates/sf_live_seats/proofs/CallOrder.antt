-- The order in which a caller makes its calls.
use Rattle.std.proofs.Common.{◌≡◌, ℕ, zero, suc, ◌<◌, ◌≤◌, List, [], ◌∷◌, ◌++◌, inl, inr, length, get_or, set, arith, ap, ◌∙◌, sym, subst}
use Rattle.std.specs.Prelude.{◌⊎◌, map, Contains}
use Rattle.std.proofs.lemmas.List.Elements.{Contains-append_cases, Contains-append_left, Contains-append_right}
use Rattle.sf_calls.specs.Histories.{calls_by}
use Rattle.sf_live_seats.specs.declared.clock.Clock.{Clock}
use Rattle.sf_live_seats.specs.Calls.{Ticks}
use Rattle.sf_live_seats.specs.Seats.{IsInOrder, QueuePass, calls_made, moment}

pub contains_cons : {X : Type 0} (x : X) (xs : List X) (m : X) → Contains (x ∷ xs) m → (m ≡ x) ⊎ Contains xs m
contains_cons x xs m (zero, low, is) = inl (sym is)
contains_cons x xs m (suc k, low, is) = inr (k, omega (arith, low), is)

-- these are those with at most one more
abbrev pub AddsOne : ℕ × ℕ → List (ℕ × ℕ) → List (ℕ × ℕ) → Type 0
AddsOne one old new = (m : ℕ × ℕ) → Contains new m → Contains old m ⊎ (m ≡ one)

adds_cons : (one : ℕ × ℕ) (old new : List (ℕ × ℕ)) → new ≡ one ∷ old → AddsOne one old new
adds_cons one old new is m there = elim (contains_cons one old m (subst (λ (xs : List (ℕ × ℕ)). Contains xs m) is there)) [
  | inl same ↦ inr same
  | inr before ↦ inl before
]

adds_left : (one : ℕ × ℕ) (old new rest : List (ℕ × ℕ)) → AddsOne one old new → AddsOne one (old ++ rest) (new ++ rest)
adds_left one old new rest adds m there = elim (Contains-append_cases new rest m there) [
  | inl here ↦ (elim (adds m here) [
    | inl before ↦ inl (Contains-append_left old rest m before)
    | inr same ↦ inr same
  ])
  | inr later ↦ inl (Contains-append_right old rest m later)
]

pub adds_right : (one : ℕ × ℕ) (rest old new : List (ℕ × ℕ)) → AddsOne one old new → AddsOne one (rest ++ old) (rest ++ new)
adds_right one rest old new adds m there = elim (Contains-append_cases rest new m there) [
  | inl first ↦ inl (Contains-append_left rest old m first)
  | inr here ↦ (elim (adds m here) [
    | inl before ↦ inl (Contains-append_right rest old m before)
    | inr same ↦ inr same
  ])
]

module _ {B : Type 0} where
  adds_at : (one : ℕ × ℕ) (by : ℕ) (passes : List (QueuePass B)) (place : ℕ) (was next : QueuePass B) → place < length passes → map moment (calls_by by next.seen) ≡ one ∷ map moment (calls_by by (get_or passes place was).seen) → AddsOne one (calls_made by passes) (calls_made by (set passes place next))
  adds_at one by [] place was next low is = absurd (omega (arith, low))
  adds_at one by (p ∷ passes) zero was next low is =
      adds_left one (map moment (calls_by by p.seen)) (map moment (calls_by by next.seen)) (calls_made by passes) (adds_cons one (map moment (calls_by by p.seen)) (map moment (calls_by by next.seen)) is)
  adds_at one by (p ∷ passes) (suc place) was next low is =
      adds_right one (map moment (calls_by by p.seen)) (calls_made by passes) (calls_made by (set passes place next)) (adds_at one by passes place was next (omega (arith, low)) is)

  same_at : (by : ℕ) (passes : List (QueuePass B)) (place : ℕ) (was next : QueuePass B) → place < length passes → map moment (calls_by by next.seen) ≡ map moment (calls_by by (get_or passes place was).seen) → calls_made by (set passes place next) ≡ calls_made by passes
  same_at by [] place was next low is = absurd (omega (arith, low))
  same_at by (p ∷ passes) zero was next low is = ap (λ (xs : List (ℕ × ℕ)). xs ++ calls_made by passes) is
  same_at by (p ∷ passes) (suc place) was next low is = ap (λ (xs : List (ℕ × ℕ)). map moment (calls_by by p.seen) ++ xs) (same_at by passes place was next (omega (arith, low)) is)

pub order_made : (before after : Clock) (old new : List (ℕ × ℕ)) → IsInOrder before old → before.step ≤ after.step → before.stamp < after.stamp → AddsOne (after.step, after.stamp) old new → IsInOrder after new
order_made before after old new order step stamp adds = record {
  step = λ m there. elim (adds m there) [
    | inl was ↦ (let a = order.step m was in omega (arith, a, step))
    | inr one ↦ (let a = ap (λ (p : ℕ × ℕ). p.0) one in omega (arith, a))
  ];
  stamp = λ m there. elim (adds m there) [
    | inl was ↦ (let a = order.stamp m was in omega (arith, a, stamp))
    | inr one ↦ (let a = ap (λ (p : ℕ × ℕ). p.1) one in omega (arith, a))
  ];
  rise = λ m n in_m in_n less. elim (adds m in_m) [
    | inl was_m ↦ (elim (adds n in_n) [
      | inl was_n ↦ order.rise m n was_m was_n less
      | inr one ↦ (let a = order.stamp m was_m in let b = ap (λ (p : ℕ × ℕ). p.1) one in omega (arith, a, b, stamp))
    ])
    | inr one_m ↦ (elim (adds n in_n) [
      | inl was_n ↦ (let a = order.step n was_n in let b = ap (λ (p : ℕ × ℕ). p.0) one_m in absurd (omega (arith, a, b, step, less)))
      | inr one_n ↦ (let a = ap (λ (p : ℕ × ℕ). p.0) one_m in let b = ap (λ (p : ℕ × ℕ). p.0) one_n in absurd (omega (arith, a, b, less)))
    ])
  ];
}

-- what is new among these has a stamp above this one
abbrev pub Later : ℕ → List (ℕ × ℕ) → List (ℕ × ℕ) → Type 0
Later stamp old new = (m : ℕ × ℕ) → Contains new m → Contains old m ⊎ (stamp < m.1)

pub later_made : (before after : Clock) (old new : List (ℕ × ℕ)) → before.stamp < after.stamp → AddsOne (after.step, after.stamp) old new → Later before.stamp old new
later_made before after old new stamp adds m there = elim (adds m there) [
  | inl was ↦ inl was
  | inr one ↦ inr (let a = ap (λ (p : ℕ × ℕ). p.1) one in omega (arith, a, stamp))
]

pub later_same : (stamp : ℕ) (old new : List (ℕ × ℕ)) → new ≡ old → Later stamp old new
later_same stamp old new is m there = inl (subst (λ (xs : List (ℕ × ℕ)). Contains xs m) is there)

pub order_same : (before after : Clock) (old new : List (ℕ × ℕ)) → IsInOrder before old → after ≡ before → new ≡ old → IsInOrder after new
order_same before after old new order last is =
    subst (λ (c : Clock). IsInOrder c new) (sym last) (subst (λ (xs : List (ℕ × ℕ)). IsInOrder before xs) (sym is) order)

pub stamp_rises : (before after : Clock) (old new : List (ℕ × ℕ)) → Ticks before after old new → before.stamp ≤ after.stamp
stamp_rises before after old new (inl made) = (let a = made.stamp in omega (arith, a))
stamp_rises before after old new (inr none) = (let a = ap (λ (c : Clock). c.stamp) none.last in omega (arith, a))

-- after a call on the arrivals, or none
pub order_sent : (before after : Clock) (calls old new : List (ℕ × ℕ)) → IsInOrder before (calls ++ old) → Ticks before after old new → IsInOrder after (calls ++ new)
order_sent before after calls old new order (inl made) =
    order_made before after (calls ++ old) (calls ++ new) order made.step made.stamp (adds_right (after.step, after.stamp) calls old new (adds_cons (after.step, after.stamp) old new made.moments))
order_sent before after calls old new order (inr none) = order_same before after (calls ++ old) (calls ++ new) order none.last (ap (λ (xs : List (ℕ × ℕ)). calls ++ xs) none.moments)

pub later_sent : (before after : Clock) (calls old new : List (ℕ × ℕ)) → Ticks before after old new → Later before.stamp (calls ++ old) (calls ++ new)
later_sent before after calls old new (inl made) =
    later_made before after (calls ++ old) (calls ++ new) made.stamp (adds_right (after.step, after.stamp) calls old new (adds_cons (after.step, after.stamp) old new made.moments))
later_sent before after calls old new (inr none) = later_same before.stamp (calls ++ old) (calls ++ new) (ap (λ (xs : List (ℕ × ℕ)). calls ++ xs) none.moments)

module _ {B : Type 0} where
  pub later_called : (before after : Clock) (by : ℕ) (passes : List (QueuePass B)) (place : ℕ) (one next : QueuePass B) (sends : List (ℕ × ℕ)) → one ≡ get_or passes place one → one.by ≡ by → place < length passes → Ticks before after (map moment (calls_by one.by one.seen)) (map moment (calls_by one.by next.seen)) → Later before.stamp (calls_made by passes ++ sends) (calls_made by (set passes place next) ++ sends)
  later_called before after by passes place one next sends there number low ticks =
      by_case (subst (λ (b : ℕ). Ticks before after (map moment (calls_by b one.seen)) (map moment (calls_by b next.seen))) number ticks)
    where
      was : map moment (calls_by by one.seen) ≡ map moment (calls_by by (get_or passes place one).seen)
      was = ap (λ (p : QueuePass B). map moment (calls_by by p.seen)) there

      by_case : Ticks before after (map moment (calls_by by one.seen)) (map moment (calls_by by next.seen)) → Later before.stamp (calls_made by passes ++ sends) (calls_made by (set passes place next) ++ sends)
      by_case (inl made) =
          later_made before after (calls_made by passes ++ sends) (calls_made by (set passes place next) ++ sends) made.stamp
          (adds_left (after.step, after.stamp) (calls_made by passes) (calls_made by (set passes place next)) sends
          (adds_at (after.step, after.stamp) by passes place one next low (made.moments ∙ ap (λ (xs : List (ℕ × ℕ)). (after.step, after.stamp) ∷ xs) was)))
      by_case (inr none) =
          later_same before.stamp (calls_made by passes ++ sends) (calls_made by (set passes place next) ++ sends)
          (ap (λ (xs : List (ℕ × ℕ)). xs ++ sends) (same_at by passes place one next low (none.moments ∙ was)))

  -- after a call on a queue, or none
  pub order_called : (before after : Clock) (by : ℕ) (passes : List (QueuePass B)) (place : ℕ) (one next : QueuePass B) (sends : List (ℕ × ℕ)) → IsInOrder before (calls_made by passes ++ sends) → one ≡ get_or passes place one → one.by ≡ by → place < length passes → Ticks before after (map moment (calls_by one.by one.seen)) (map moment (calls_by one.by next.seen)) → IsInOrder after (calls_made by (set passes place next) ++ sends)
  order_called before after by passes place one next sends order there number low ticks =
      by_case (subst (λ (b : ℕ). Ticks before after (map moment (calls_by b one.seen)) (map moment (calls_by b next.seen))) number ticks)
    where
      was : map moment (calls_by by one.seen) ≡ map moment (calls_by by (get_or passes place one).seen)
      was = ap (λ (p : QueuePass B). map moment (calls_by by p.seen)) there

      by_case : Ticks before after (map moment (calls_by by one.seen)) (map moment (calls_by by next.seen)) → IsInOrder after (calls_made by (set passes place next) ++ sends)
      by_case (inl made) =
          order_made before after (calls_made by passes ++ sends) (calls_made by (set passes place next) ++ sends) order made.step made.stamp
          (adds_left (after.step, after.stamp) (calls_made by passes) (calls_made by (set passes place next)) sends
          (adds_at (after.step, after.stamp) by passes place one next low (made.moments ∙ ap (λ (xs : List (ℕ × ℕ)). (after.step, after.stamp) ∷ xs) was)))
      by_case (inr none) =
          order_same before after (calls_made by passes ++ sends) (calls_made by (set passes place next) ++ sends) order none.last
          (ap (λ (xs : List (ℕ × ℕ)). xs ++ sends) (same_at by passes place one next low (none.moments ∙ was)))

-- with the same that was done besides
pub ticks_with : (before after : Clock) (old new rest : List (ℕ × ℕ)) → Ticks before after old new → Ticks before after (old ++ rest) (new ++ rest)
ticks_with before after old new rest (inl made) = inl (record { step = made.step; stamp = made.stamp; moments = ap (λ (xs : List (ℕ × ℕ)). xs ++ rest) made.moments })
ticks_with before after old new rest (inr none) = inr (record { last = none.last; moments = ap (λ (xs : List (ℕ × ℕ)). xs ++ rest) none.moments })

pub adds_last : (one : ℕ × ℕ) (old new : List (ℕ × ℕ)) → new ≡ old ++ one ∷ [] → AddsOne one old new
adds_last one old new is m there = elim (Contains-append_cases old (one ∷ []) m (subst (λ (xs : List (ℕ × ℕ)). Contains xs m) is there)) [
  | inl before ↦ inl before
  | inr last ↦ (elim (contains_cons one [] m last) [
    | inl same ↦ inr same
    | inr none ↦ absurd (let low = none.1 in omega (arith, low))
  ])
]
