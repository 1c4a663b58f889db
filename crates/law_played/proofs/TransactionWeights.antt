-- What transactions weigh that are to be committed: each a commit, and the milliseconds for which it may wait for its time.
use Rattle.std.proofs.Common.{◌≡◌, ℕ, ◌+◌, ◌-◌, ◌*◌, ◌/◌, ◌<◌, ◌≤◌, ◌==◌, min, Bool, true, false, List, [], ◌∷◌, length, filter, map, Option, Some, None, refl, sym, ap, ◌∙◌, subst, inl, inr, arith}
use Rattle.std.specs.Prelude.{◌&&◌, Contains, filter_map, find, nat_le, nat_lt}
use Rattle.std.specs.List.{cons_option, list_any, sum_by}
use Rattle.std.specs.Option.{option_map, option_map_or, option_or}
use Rattle.std.proofs.lemmas.Bool.{and_parts, cases_Bool, false≢true, leb-true, ltb-true, or_cases}
use Rattle.std.proofs.lemmas.List.Sums.{sum_by-cons}
use Rattle.std.proofs.lemmas.Option.{none-some, same_Some}
use Rattle.sf_base.specs.Fences.{first_open_of}
use Rattle.sf_base.specs.declared.fences.Seen.{Seen}
use Rattle.sf_base.specs.declared.ids.LayerId.{LayerId}
use Rattle.sf_commit.specs.sf_txn.Buffers.{Buffer}
use Rattle.sf_commit.specs.sf_txn.Transactions.{Contents}
use Rattle.sf_commit.specs.sf_ready.Facts.{FactsOf}
use Rattle.sf_commit.specs.sf_ready.Holds.{barrier_hold, fence_hold, hold_of, point_hold, pressure_hold, time_hold, undrawn_hold}
use Rattle.sf_commit.specs.sf_ready.declared.hold.Hold.{Hold}
use Rattle.sf_commit.specs.sf_ready.declared.hold.Hold.TheVariants as hold
use Rattle.sf_commit.specs.sf_token.Pending.{Arrival, head_of}
use Rattle.sf_commit.specs.Rounds.{Round, facts_of, hold_at}
use Rattle.sf_commit.specs.sf_commit_next.Heads.{head_hold}
use Rattle.law_played.specs.Progress.{is_time}
use Rattle.law_played.proofs.Members.{has_cases, has_first, has_here, has_later, has_none}

module _ {X : Type 0} where
  -- sums of what is not more, and of what is less at one place
  pub sums_le : (f g : X → ℕ) (xs : List X) → ((x : X) → f x ≤ g x) → sum_by f xs ≤ sum_by g xs
  sums_le f g [] le = omega arith
  sums_le f g (a ∷ xs) le =
      let here = le a in
      let rest = sums_le f g xs le in
      let one = sum_by-cons f a xs in
      let other = sum_by-cons g a xs in
      omega (arith, here, rest, one, other)

  pub sums_less : (f g : X → ℕ) (xs : List X) (x : X) → Contains xs x → ((y : X) → f y ≤ g y) → f x + 1 ≤ g x → sum_by f xs + 1 ≤ sum_by g xs
  sums_less f g [] x there le less = has_none x there
  sums_less f g (a ∷ xs) x there le less =
      let one = sum_by-cons f a xs in
      let other = sum_by-cons g a xs in
      elim (has_cases a x xs there) [
        | inl same ↦
            let here : f a + 1 ≤ g a = subst (λ (y : X). f y + 1 ≤ g y) (sym same) less in
            let rest = sums_le f g xs le in
            omega (arith, here, rest, one, other)
        | inr later ↦
            let here = le a in
            let rest = sums_less f g xs x later le less in
            omega (arith, here, rest, one, other)
      ]

  -- what is kept weighs no more, and less where one goes
  pub kept_le : (f : X → ℕ) (p : X → Bool) (xs : List X) → sum_by f (filter p xs) ≤ sum_by f xs
  kept_le f p [] = omega arith
  kept_le f p (a ∷ xs) =
      let rest = kept_le f p xs in
      let all = sum_by-cons f a xs in
      elim (cases_Bool (p a)) [
        | inl met ↦ let kept = sum_by-cons f a (filter p xs) in rw met (omega (arith, rest, all, kept))
        | inr unmet ↦ rw unmet (omega (arith, rest, all))
      ]

  pub kept_less : (f : X → ℕ) (p : X → Bool) (xs : List X) (x : X) → Contains xs x → p x ≡ false → sum_by f (filter p xs) + f x ≤ sum_by f xs
  kept_less f p [] x there goes = has_none x there
  kept_less f p (a ∷ xs) x there goes =
      let all = sum_by-cons f a xs in
      elim (has_cases a x xs there) [
        | inl same ↦
            let rest = kept_le f p xs in
            let weighs = ap f same in
            rw (ap p same ∙ goes) (omega (arith, rest, all, weighs))
        | inr later ↦
            let rest = kept_less f p xs x later goes in
            elim (cases_Bool (p a)) [
              | inl met ↦ let kept = sum_by-cons f a (filter p xs) in rw met (omega (arith, rest, all, kept))
              | inr unmet ↦ rw unmet (omega (arith, rest, all))
            ]
      ]

  -- what is found is there
  pub found_there : (p : X → Bool) (xs : List X) (x : X) → find p xs ≡ Some x → Contains xs x
  found_there p [] x e = absurd (none-some x e)
  found_there p (a ∷ xs) x e = elim (cases_Bool (p a)) [
    | inl met ↦ has_first a x xs (same_Some a x (rw met at e))
    | inr unmet ↦ has_later a x xs (found_there p xs x (rw unmet at e))
  ]

-- For how many milliseconds a transaction may wait for its time from now on. One whose time lies more than a second behind a
-- vsync counts as come, so two seconds are enough.
abbrev pub wait_left : ℕ → Option ℕ → ℕ
wait_left now None = 0
wait_left now (Some desired) = min 2000 ((desired - now) / 1000000)

wait_most : (now : ℕ) (desired : Option ℕ) → wait_left now desired ≤ 2000
wait_most now None = omega arith
wait_most now (Some desired) = omega arith

-- later there is no longer to wait
wait_later : (now period : ℕ) (desired : Option ℕ) → wait_left (now + period) desired ≤ wait_left now desired
wait_later now period None = omega arith
wait_later now period (Some desired) = omega arith

-- and less, where a vsync waited for its time
wait_less : (now period desired : ℕ) → 1000000 ≤ period → period ≤ 1000000000 → now + period < desired → desired ≤ now + period + 1000000000
    → wait_left (now + period) (Some desired) + 1 ≤ wait_left now (Some desired)
wait_less now period desired low high above near = omega (arith, low, high, above, near)

-- no other hold waits for a time
abbrev waits_time : Option Hold → Bool
waits_time None = false
waits_time (Some h) = is_time h

no_point : (point : Option (ℕ × ℕ)) → waits_time (point_hold point) ≡ false
no_point None = refl
no_point (Some p) = refl

or_times : (one other : Option Hold) → waits_time one ≡ false → waits_time other ≡ false → waits_time (option_or one other) ≡ false
or_times None other first second = second
or_times (Some h) other first second = first

no_mapped : {X : Type 0} (f : X → Hold) (found : Option X) → ((x : X) → is_time (f x) ≡ false) → waits_time (option_map f found) ≡ false
no_mapped f None none = refl
no_mapped f (Some x) none = none x

near_time : (expected desired : ℕ) (own : Option ℕ) → time_hold own expected ≡ Some (hold.Time desired) → (own ≡ Some desired) × (expected < desired) × (desired ≤ expected + 1000000000)
near_time expected desired None e = absurd (cc (e))
near_time expected desired (Some own) e = elim (cases_Bool (nat_lt expected own && nat_le own (expected + 1000000000))) [
  | inl met ↦
      let f = rw met at e in
      let same : own ≡ desired = cc in
      let parts = and_parts (nat_lt expected own) (nat_le own (expected + 1000000000)) met in
      (ap (λ (n : ℕ). Some n) same, subst (λ (n : ℕ). expected < n) same (ltb-true expected own parts.0), subst (λ (n : ℕ). n ≤ expected + 1000000000) same (leb-true own (expected + 1000000000) parts.1))
  | inr unmet ↦ let f = rw unmet at e in absurd (cc (f))
]

is_timed : (h : Hold) → is_time h ≡ true → (desired : ℕ) × (h ≡ hold.Time desired)
is_timed (hold.Time desired) e = (desired, refl)
is_timed other e = absurd (false≢true e)

module _ {L : Type 0} where
  abbrev pub weight : ℕ → Arrival L → ℕ
  weight now arrived = 1 + wait_left now arrived.txn.desired

  -- transactions are to be committed, and each may wait for its time before
  abbrev pub to_commit : ℕ → List (Arrival L) → ℕ
  to_commit now arrivals = sum_by (weight now) arrivals

  pub few_weigh : (now : ℕ) (arrivals : List (Arrival L)) → to_commit now arrivals ≤ 2001 * length arrivals
  few_weigh now [] = omega arith
  few_weigh now (arrived ∷ later) =
      let rest = few_weigh now later in
      let sum = sum_by-cons (weight now) arrived later in
      let least = wait_most now arrived.txn.desired in
      omega (arith, rest, sum, least)

  pub weights_later : (now period : ℕ) (arrivals : List (Arrival L)) → to_commit (now + period) arrivals ≤ to_commit now arrivals
  weights_later now period arrivals = sums_le (weight (now + period)) (weight now) arrivals (λ a. let less = wait_later now period a.txn.desired in omega (arith, less))

  -- a transaction waits for its time at the next vsync
  pub record WaitsFor (expected : ℕ) (arrived : Arrival L) : Type 0 where
    pub desired : ℕ
    pub is : arrived.txn.desired ≡ Some desired
    pub above : expected < desired
    pub near : desired ≤ expected + 1000000000

  pub weights_less : (now period : ℕ) (arrivals : List (Arrival L)) (arrived : Arrival L) → 1000000 ≤ period → period ≤ 1000000000 → Contains arrivals arrived → WaitsFor (now + period) arrived
      → to_commit (now + period) arrivals + 1 ≤ to_commit now arrivals
  weights_less now period arrivals arrived low high there waits =
      let less = wait_less now period waits.desired low high waits.above waits.near in
      let here : wait_left (now + period) arrived.txn.desired + 1 ≤ wait_left now arrived.txn.desired =
      subst (λ (d : Option ℕ). wait_left (now + period) d + 1 ≤ wait_left now d) (sym waits.is) less in
      sums_less (weight (now + period)) (weight now) arrivals arrived there (λ a. let less = wait_later now period a.txn.desired in omega (arith, less)) (omega (arith, here))

  no_fence : (buffers : List (Buffer L)) (seen : Seen) → waits_time (fence_hold buffers seen) ≡ false
  no_fence [] seen = refl
  no_fence (buffer ∷ buffers) seen = or_times (point_hold (first_open_of buffer.fence seen)) (fence_hold buffers seen) (no_point (first_open_of buffer.fence seen)) (no_fence buffers seen)

  no_undrawn : (buffers : List (Buffer L)) (drawn : List Bool) → waits_time (undrawn_hold buffers drawn) ≡ false
  no_undrawn [] drawn = refl
  no_undrawn (buffer ∷ buffers) [] = refl
  no_undrawn (buffer ∷ buffers) (d ∷ drawn) = elim (cases_Bool d) [
    | inl met ↦ rw met (no_undrawn buffers drawn)
    | inr unmet ↦ rw unmet refl
  ]

  no_pressure : (desired : Option ℕ) (buffers : List (Buffer L)) (fresh pressed : List ℕ) → waits_time (pressure_hold desired buffers fresh pressed) ≡ false
  no_pressure (Some desired) buffers fresh pressed = refl
  no_pressure None buffers fresh pressed = no_mapped (λ (buffer : Buffer L). hold.Pressure buffer.layer) (find _ buffers) (λ buffer. refl)

  -- a hold for a time is that of the desired one
  by_time : (txn : Contents L) (drawn : List Bool) (facts : FactsOf) (seen : Seen) (expected desired : ℕ) → hold_of txn drawn facts seen expected ≡ Some (hold.Time desired)
      → time_hold txn.desired expected ≡ Some (hold.Time desired)
  unfolding hold_of
  by_time txn drawn facts seen expected desired e =
      let rest = option_or (fence_hold txn.buffers seen) (option_or (undrawn_hold txn.buffers drawn) (option_or (barrier_hold txn.barriers facts.frames) (pressure_hold txn.desired txn.buffers facts.fresh facts.pressed))) in
      let none = or_times (fence_hold txn.buffers seen) _ (no_fence txn.buffers seen) (or_times (undrawn_hold txn.buffers drawn) _ (no_undrawn txn.buffers drawn)
      (or_times (barrier_hold txn.barriers facts.frames) _ (no_mapped (λ (barrier : LayerId × ℕ). hold.Barrier barrier.0 barrier.1) (find _ txn.barriers) (λ barrier. refl))
      (no_pressure txn.desired txn.buffers facts.fresh facts.pressed))) in
      by_first (time_hold txn.desired expected) rest none e
    where
      by_first : (first rest : Option Hold) → waits_time rest ≡ false → option_or first rest ≡ Some (hold.Time desired) → first ≡ Some (hold.Time desired)
      by_first None rest none e = absurd (false≢true (sym none ∙ ap waits_time e))
      by_first (Some h) rest none e = e

  -- among what is held for a time there is a transaction that waits for it
  module _ (drawn : L → Bool) (seen : Seen) (expected : ℕ) where
    abbrev held_for : Round L → Arrival L → Option (ℕ × Hold)
    held_for r arrived = option_map (λ h. (arrived.number, h)) (hold_at drawn seen expected r arrived)

    at_time : (r : Round L) (arrived : Arrival L) (h : Hold) → hold_at drawn seen expected r arrived ≡ Some h → is_time h ≡ true → WaitsFor expected arrived
    at_time r arrived h e time =
        let timed = is_timed h time in
        let first = option_map_or (λ (first : Arrival L). first.number == arrived.number) (head_of arrived.txn.token r.pending) false in
        let holds : hold_at drawn seen expected r arrived ≡ Some (hold.Time timed.0) = e ∙ ap (λ (x : Hold). Some x) timed.1 in
        elim (cases_Bool first) [
          | inl met ↦
              let head : head_hold drawn seen expected (facts_of r) arrived ≡ Some (hold.Time timed.0) = rw met at holds in
              let near = near_time expected timed.0 arrived.txn.desired
              (by_time arrived.txn (map (λ (buffer : Buffer L). drawn buffer.lease) arrived.txn.buffers) (facts_of r) seen expected timed.0 head) in
              record { desired = timed.0; is = near.0; above = near.1; near = near.2 }
          | inr unmet ↦ let f = rw unmet at holds in absurd (cc (f))
        ]

    there_now : (r : Round L) (arrived : Arrival L) (later : List (Arrival L)) (found : Option Hold) → hold_at drawn seen expected r arrived ≡ found
        → (list_any (λ (one : ℕ × Hold). is_time one.1) (filter_map (held_for r) later) ≡ true → (a : Arrival L) × Contains later a × WaitsFor expected a)
        → list_any (λ (one : ℕ × Hold). is_time one.1) (cons_option (option_map (λ h. (arrived.number, h)) found) (filter_map (held_for r) later)) ≡ true
        → (a : Arrival L) × Contains (arrived ∷ later) a × WaitsFor expected a
    there_now r arrived later None e rest any = let it = rest any in (it.0, has_later arrived it.0 later it.1, it.2)
    there_now r arrived later (Some h) e rest any = elim (or_cases (is_time h) (list_any (λ (one : ℕ × Hold). is_time one.1) (filter_map (held_for r) later)) any) [
      | inl time ↦ (arrived, has_here arrived later, at_time r arrived h e time)
      | inr more ↦ let it = rest more in (it.0, has_later arrived it.0 later it.1, it.2)
    ]

    pub waits_there : (r : Round L) (pending : List (Arrival L)) → list_any (λ (one : ℕ × Hold). is_time one.1) (filter_map (held_for r) pending) ≡ true
        → (arrived : Arrival L) × Contains pending arrived × WaitsFor expected arrived
    waits_there r [] e = absurd (false≢true e)
    waits_there r (arrived ∷ later) e = there_now r arrived later (hold_at drawn seen expected r arrived) refl (waits_there r later) e
