-- A vsync lessens what is left to be committed, where it commits something or something waits for its time.
use Rattle.std.proofs.Common.{◌≡◌, ◌≢◌, ℕ, ◌+◌, ◌<◌, ◌≤◌, ◌==◌, Bool, true, false, List, [], ◌∷◌, ◌++◌, length, map, Option, Some, None, refl, sym, ap, ◌∙◌, subst, inl, inr, arith}
use Rattle.std.specs.Prelude.{◌⊎◌, ◌&&◌, Result, Ok, Err, Contains, filter_map, find, is_none, nat_le, nat_lt}
use Rattle.std.specs.List.{AllZip, cons_option, list_any, sum_by}
use Rattle.std.specs.Option.{option_map, option_map_or, option_or}
use Rattle.std.proofs.lemmas.Bool.{and_parts, cases_Bool, false≢true, leb-true, ltb-true, or_cases}
use Rattle.std.proofs.lemmas.List.{length-append, nil_from_length}
use Rattle.std.proofs.lemmas.List.Sums.{sum_by-append, sum_by-cons}
use Rattle.sf_base.specs.Fences.{first_open_of}
use Rattle.sf_base.specs.declared.fences.Seen.{Seen}
use Rattle.sf_base.specs.declared.ids.LayerId.{LayerId}
use Rattle.sf_play_report.specs.sf_txn.Buffers.{Buffer}
use Rattle.sf_play_report.specs.sf_txn.Transactions.{Contents, without_first}
use Rattle.sf_play_report.specs.sf_txn.declared.lease.Lease.{Ghosts}
use Rattle.sf_play_report.specs.sf_ready.Facts.{FactsOf}
use Rattle.sf_play_report.specs.sf_ready.Holds.{barrier_hold, fence_hold, hold_of, point_hold, pressure_hold, time_hold, undrawn_hold}
use Rattle.sf_play_report.specs.sf_ready.declared.hold.Hold.{Hold}
use Rattle.sf_play_report.specs.sf_ready.declared.hold.Hold.TheVariants as hold
use Rattle.sf_play_report.specs.sf_token.Loads.{IsLookedArrival}
use Rattle.sf_play_report.specs.sf_token.Pending.{Arrival, head_of, is_of}
use Rattle.sf_play_report.specs.sf_commit.Handlers.{Decides, HandlerOf, begun}
use Rattle.sf_play_report.specs.sf_commit.declared.vsync.Commit.{Commit}
use Rattle.sf_play_report.specs.sf_commit.Releases.{CommittedOf}
use Rattle.sf_play_report.specs.sf_tree.Changes.{Rejection, after}
use Rattle.sf_play_report.specs.sf_tree.Trees.{TreeOf}
use Rattle.sf_play_report.specs.sf_commit.Rounds.{Leads, Round, commit_of, committed, facts_of, hold_at, stage_with}
use Rattle.sf_play_report.specs.sf_commit_next.Heads.{head_hold, ready_if}
use Rattle.sf_play_report.specs.law_played.Progress.{is_time}
use Rattle.sf_play_report.proofs.law_played_lemmas.Members.{has_cases, has_here, has_later, has_none}
use Rattle.sf_play.specs.Fuel.{to_commit, wait_left}

-- later there is no longer to wait
wait_later : (now period : ℕ) (desired : Option ℕ) → wait_left (now + period) desired ≤ wait_left now desired
wait_later now period None = omega arith
wait_later now period (Some desired) = omega arith

-- and less, where a vsync waited for its time
wait_less : (now period desired : ℕ) → 1000000 ≤ period → period ≤ 1000000000 → now + period < desired → desired ≤ now + period + 1000000000
    → wait_left (now + period) (Some desired) + 1 ≤ wait_left now (Some desired)
wait_less now period desired low high above near = omega (arith, low, high, above, near)

-- no other hold waits for a time
abbrev waits_time : Option Hold → Bool
waits_time None = false
waits_time (Some h) = is_time h

no_point : (point : Option (ℕ × ℕ)) → waits_time (point_hold point) ≡ false
no_point None = refl
no_point (Some p) = refl

or_times : (one other : Option Hold) → waits_time one ≡ false → waits_time other ≡ false → waits_time (option_or one other) ≡ false
or_times None other first second = second
or_times (Some h) other first second = first

no_mapped : {X : Type 0} (f : X → Hold) (found : Option X) → ((x : X) → is_time (f x) ≡ false) → waits_time (option_map f found) ≡ false
no_mapped f None none = refl
no_mapped f (Some x) none = none x

near_time : (expected desired : ℕ) (own : Option ℕ) → time_hold own expected ≡ Some (hold.Time desired) → (own ≡ Some desired) × (expected < desired) × (desired ≤ expected + 1000000000)
near_time expected desired None e = absurd (cc (e))
near_time expected desired (Some own) e = elim (cases_Bool (nat_lt expected own && nat_le own (expected + 1000000000))) [
  | inl met ↦
      let f = rw met at e in
      let same : own ≡ desired = cc in
      let parts = and_parts (nat_lt expected own) (nat_le own (expected + 1000000000)) met in
      (ap (λ (n : ℕ). Some n) same, subst (λ (n : ℕ). expected < n) same (ltb-true expected own parts.0), subst (λ (n : ℕ). n ≤ expected + 1000000000) same (leb-true own (expected + 1000000000) parts.1))
  | inr unmet ↦ let f = rw unmet at e in absurd (cc (f))
]

is_timed : (h : Hold) → is_time h ≡ true → (desired : ℕ) × (h ≡ hold.Time desired)
is_timed (hold.Time desired) e = (desired, refl)
is_timed other e = absurd (false≢true e)

module _ {L : Type 0} where
  abbrev weight : ℕ → Arrival L → ℕ
  weight now arrived = 1 + wait_left now arrived.txn.desired

  weights_later : (now period : ℕ) (arrivals : List (Arrival L)) → to_commit (now + period) arrivals ≤ to_commit now arrivals
  weights_later now period [] = omega arith
  weights_later now period (arrived ∷ later) =
      let rest = weights_later now period later in
      let here = wait_later now period arrived.txn.desired in
      let new = sum_by-cons (weight (now + period)) arrived later in
      let old = sum_by-cons (weight now) arrived later in
      omega (arith, rest, here, new, old)

  -- a transaction waits for its time at the next vsync
  pub record WaitsFor (expected : ℕ) (arrived : Arrival L) : Type 0 where
    pub desired : ℕ
    pub is : arrived.txn.desired ≡ Some desired
    pub above : expected < desired
    pub near : desired ≤ expected + 1000000000

  weights_less : (now period : ℕ) (arrivals : List (Arrival L)) (arrived : Arrival L) → 1000000 ≤ period → period ≤ 1000000000 → Contains arrivals arrived → WaitsFor (now + period) arrived
      → to_commit (now + period) arrivals + 1 ≤ to_commit now arrivals
  weights_less now period [] arrived low high there waits = has_none arrived there
  weights_less now period (a ∷ later) arrived low high there waits =
      let new = sum_by-cons (weight (now + period)) a later in
      let old = sum_by-cons (weight now) a later in
      elim (has_cases a arrived later there) [
        | inl same ↦
            let rest = weights_later now period later in
            let less = wait_less now period waits.desired low high waits.above waits.near in
            let desired : a.txn.desired ≡ Some waits.desired = ap (λ (x : Arrival L). x.txn.desired) same ∙ waits.is in
            let here : wait_left (now + period) a.txn.desired + 1 ≤ wait_left now a.txn.desired =
            subst (λ (d : Option ℕ). wait_left (now + period) d + 1 ≤ wait_left now d) (sym desired) less in
            omega (arith, rest, here, new, old)
        | inr c ↦
            let rest = weights_less now period later arrived low high c waits in
            let here = wait_later now period a.txn.desired in
            omega (arith, rest, here, new, old)
      ]

  -- the first that passes, and the others
  without_sum : (f : Arrival L → ℕ) (p : Arrival L → Bool) (xs : List (Arrival L)) (x : Arrival L) → find p xs ≡ Some x → sum_by f xs ≡ f x + sum_by f (without_first p xs)
  without_sum f p [] x e = absurd (cc (e))
  without_sum f p (a ∷ xs) x e =
      let all = sum_by-cons f a xs in
      elim (cases_Bool (p a)) [
        | inl met ↦ let is = rw met at e in let same : a ≡ x = cc in rw met (all ∙ ap (λ (y : Arrival L). f y + sum_by f xs) same)
        | inr unmet ↦
            let rest = without_sum f p xs x (rw unmet at e) in
            let more = sum_by-cons f a (without_first p xs) in
            rw unmet (omega (arith, all, rest, more))
      ]

  -- where some are to be committed
  some_weight : (now : ℕ) (arrivals : List (Arrival L)) → arrivals ≢ [] → 1 ≤ to_commit now arrivals
  some_weight now [] some = absurd (some refl)
  some_weight now (arrived ∷ later) some = (let sum = sum_by-cons (weight now) arrived later in omega (arith, sum))

  -- looks leave what waits
  looked_same : {E R C : Type 0} (lease : Ghosts L E R C) (now : ℕ) (olds news : List (Arrival L)) → AllZip (IsLookedArrival lease) olds news → to_commit now news ≡ to_commit now olds
  looked_same lease now [] [] zip = refl
  looked_same lease now [] (new ∷ news) zip = absurd zip
  looked_same lease now (old ∷ olds) [] zip = absurd zip
  looked_same lease now (old ∷ olds) (new ∷ news) zip =
      let rest = looked_same lease now olds news zip.1 in
      let desired : new.txn.desired ≡ old.txn.desired = ap (λ (txn : Contents L). txn.desired) zip.0.rest in
      let one = sum_by-cons (weight now) new news in
      let other = sum_by-cons (weight now) old olds in
      let same = ap (wait_left now) desired in
      omega (arith, rest, one, other, same)

  module _ (drawn : L → Bool) (seen : Seen) (expected : ℕ) where
    -- what is committed next is the first of its token
    next_head : (facts : FactsOf) (head : Option (Arrival L)) (next : Arrival L) → ready_if drawn seen expected facts head ≡ Some next → head ≡ Some next
    next_head facts None next e = absurd (cc (e))
    next_head facts (Some arrived) next e = elim (cases_Bool (is_none (head_hold drawn seen expected facts arrived))) [
      | inl met ↦ rw met at e
      | inr unmet ↦ let f = rw unmet at e in absurd (cc (f))
    ]

    -- what was committed, and what waits still
    leads_sum : (f : Arrival L → ℕ) (r : Round L) (taken : List (Arrival L)) (end : Round L) → Leads drawn seen expected r taken end → sum_by f r.pending ≡ sum_by f taken + sum_by f end.pending
    leads_sum f r [] end leads = (let same = ap (λ (e : Round L). sum_by f e.pending) leads in omega (arith, same))
    leads_sum f r (next ∷ later) end leads =
        let head = next_head (facts_of r) (head_of next.txn.token r.pending) next leads.0.0 in
        let one = without_sum f (is_of next.txn.token) r.pending next head in
        let rest = leads_sum f (committed r next) later end leads.1 in
        let taken = sum_by-cons f next later in
        omega (arith, one, rest, taken)

    -- each has its commit
    one_more : (r : Round L) (next : Arrival L) → length (committed r next).stage.commits ≡ length r.stage.commits + 1
    one_more r next = by_tree (after r.stage.tree next.txn.ops)
      where
        by_tree : (tree : Result TreeOf Rejection) → length (stage_with r.stage next tree).commits ≡ length r.stage.commits + 1
        by_tree (Ok tree) = length-append r.stage.commits (commit_of next 0 0 ∷ [])
        by_tree (Err rejection) = length-append r.stage.commits (commit_of next rejection.cause rejection.op ∷ [])

    leads_commits : (r : Round L) (taken : List (Arrival L)) (end : Round L) → Leads drawn seen expected r taken end → length end.stage.commits ≡ length r.stage.commits + length taken
    leads_commits r [] end leads = (let same = ap (λ (e : Round L). length e.stage.commits) leads in omega (arith, same))
    leads_commits r (next ∷ later) end leads =
        let rest = leads_commits (committed r next) later end leads.1 in
        let one = one_more r next in
        omega (arith, rest, one)

  no_fence : (buffers : List (Buffer L)) (seen : Seen) → waits_time (fence_hold buffers seen) ≡ false
  no_fence [] seen = refl
  no_fence (buffer ∷ buffers) seen = or_times (point_hold (first_open_of buffer.fence seen)) (fence_hold buffers seen) (no_point (first_open_of buffer.fence seen)) (no_fence buffers seen)

  no_undrawn : (buffers : List (Buffer L)) (drawn : List Bool) → waits_time (undrawn_hold buffers drawn) ≡ false
  no_undrawn [] drawn = refl
  no_undrawn (buffer ∷ buffers) [] = refl
  no_undrawn (buffer ∷ buffers) (d ∷ drawn) = elim (cases_Bool d) [
    | inl met ↦ rw met (no_undrawn buffers drawn)
    | inr unmet ↦ rw unmet refl
  ]

  no_pressure : (desired : Option ℕ) (buffers : List (Buffer L)) (fresh pressed : List ℕ) → waits_time (pressure_hold desired buffers fresh pressed) ≡ false
  no_pressure (Some desired) buffers fresh pressed = refl
  no_pressure None buffers fresh pressed = no_mapped (λ (buffer : Buffer L). hold.Pressure buffer.layer) (find _ buffers) (λ buffer. refl)

  -- a hold for a time is that of the desired one
  by_time : (txn : Contents L) (drawn : List Bool) (facts : FactsOf) (seen : Seen) (expected desired : ℕ) → hold_of txn drawn facts seen expected ≡ Some (hold.Time desired)
      → time_hold txn.desired expected ≡ Some (hold.Time desired)
  unfolding hold_of
  by_time txn drawn facts seen expected desired e =
      let rest = option_or (fence_hold txn.buffers seen) (option_or (undrawn_hold txn.buffers drawn) (option_or (barrier_hold txn.barriers facts.frames) (pressure_hold txn.desired txn.buffers facts.fresh facts.pressed))) in
      let none = or_times (fence_hold txn.buffers seen) _ (no_fence txn.buffers seen) (or_times (undrawn_hold txn.buffers drawn) _ (no_undrawn txn.buffers drawn)
      (or_times (barrier_hold txn.barriers facts.frames) _ (no_mapped (λ (barrier : LayerId × ℕ). hold.Barrier barrier.0 barrier.1) (find _ txn.barriers) (λ barrier. refl))
      (no_pressure txn.desired txn.buffers facts.fresh facts.pressed))) in
      by_first (time_hold txn.desired expected) rest none e
    where
      by_first : (first rest : Option Hold) → waits_time rest ≡ false → option_or first rest ≡ Some (hold.Time desired) → first ≡ Some (hold.Time desired)
      by_first None rest none e = absurd (false≢true (sym none ∙ ap waits_time e))
      by_first (Some h) rest none e = e

  -- among what is held for a time there is a transaction that waits for it
  module _ (drawn : L → Bool) (seen : Seen) (expected : ℕ) where
    abbrev held_for : Round L → Arrival L → Option (ℕ × Hold)
    held_for r arrived = option_map (λ h. (arrived.number, h)) (hold_at drawn seen expected r arrived)

    at_time : (r : Round L) (arrived : Arrival L) (h : Hold) → hold_at drawn seen expected r arrived ≡ Some h → is_time h ≡ true → WaitsFor expected arrived
    at_time r arrived h e time =
        let timed = is_timed h time in
        let first = option_map_or (λ (first : Arrival L). first.number == arrived.number) (head_of arrived.txn.token r.pending) false in
        let holds : hold_at drawn seen expected r arrived ≡ Some (hold.Time timed.0) = e ∙ ap (λ (x : Hold). Some x) timed.1 in
        elim (cases_Bool first) [
          | inl met ↦
              let head : head_hold drawn seen expected (facts_of r) arrived ≡ Some (hold.Time timed.0) = rw met at holds in
              let near = near_time expected timed.0 arrived.txn.desired
              (by_time arrived.txn (map (λ (buffer : Buffer L). drawn buffer.lease) arrived.txn.buffers) (facts_of r) seen expected timed.0 head) in
              record { desired = timed.0; is = near.0; above = near.1; near = near.2 }
          | inr unmet ↦ let f = rw unmet at holds in absurd (cc (f))
        ]

    there_now : (r : Round L) (arrived : Arrival L) (later : List (Arrival L)) (found : Option Hold) → hold_at drawn seen expected r arrived ≡ found
        → (list_any (λ (one : ℕ × Hold). is_time one.1) (filter_map (held_for r) later) ≡ true → (a : Arrival L) × Contains later a × WaitsFor expected a)
        → list_any (λ (one : ℕ × Hold). is_time one.1) (cons_option (option_map (λ h. (arrived.number, h)) found) (filter_map (held_for r) later)) ≡ true
        → (a : Arrival L) × Contains (arrived ∷ later) a × WaitsFor expected a
    there_now r arrived later None e rest any = let it = rest any in (it.0, has_later arrived it.0 later it.1, it.2)
    there_now r arrived later (Some h) e rest any = elim (or_cases (is_time h) (list_any (λ (one : ℕ × Hold). is_time one.1) (filter_map (held_for r) later)) any) [
      | inl time ↦ (arrived, has_here arrived later, at_time r arrived h e time)
      | inr more ↦ let it = rest more in (it.0, has_later arrived it.0 later it.1, it.2)
    ]

    waits_there : (r : Round L) (pending : List (Arrival L)) → list_any (λ (one : ℕ × Hold). is_time one.1) (filter_map (held_for r) pending) ≡ true
        → (arrived : Arrival L) × Contains pending arrived × WaitsFor expected arrived
    waits_there r [] e = absurd (false≢true e)
    waits_there r (arrived ∷ later) e = there_now r arrived later (hold_at drawn seen expected r arrived) refl (waits_there r later) e

  -- what a vsync leaves to be committed, where it was at this time; it is less where it committed something, or something waits
  pub left_by_vsync : {E R C : Type 0} (lease : Ghosts L E R C) (old new : HandlerOf L) (eye later : E) (arrived : List (Arrival L)) (seen : Seen) (now period : ℕ) (told : CommittedOf L)
      → Decides lease old eye arrived seen (now + period) told new later
      → to_commit (now + period) new.pending ≤ to_commit now old.pending + to_commit now arrived
  left_by_vsync lease old new eye later arrived seen now period told d =
      let pending = ap (λ (h : HandlerOf L). to_commit (now + period) h.pending) d.settled.state in
      let sum = leads_sum lease.shown seen (now + period) (weight now) (begun old d.looked) d.decided.taken d.end d.decided.leads in
      let looked = looked_same lease now (old.pending ++ arrived) d.looked d.looks in
      let both = sum_by-append (weight now) old.pending arrived in
      let less = weights_later now period d.end.pending in
      omega (arith, pending, sum, looked, both, less)

  pub less_by_vsync : {E R C : Type 0} (lease : Ghosts L E R C) (old new : HandlerOf L) (eye later : E) (arrived : List (Arrival L)) (seen : Seen) (now period : ℕ) (told : CommittedOf L)
      → 1000000 ≤ period → period ≤ 1000000000 → Decides lease old eye arrived seen (now + period) told new later
      → (told.commits ≢ []) ⊎ (list_any (λ (one : ℕ × Hold). is_time one.1) told.held ≡ true)
      → to_commit (now + period) new.pending + 1 ≤ to_commit now old.pending + to_commit now arrived
  less_by_vsync lease old new eye later arrived seen now period told low high d goes_on =
      let pending = ap (λ (h : HandlerOf L). to_commit (now + period) h.pending) d.settled.state in
      let sum = leads_sum lease.shown seen (now + period) (weight now) (begun old d.looked) d.decided.taken d.end d.decided.leads in
      let looked = looked_same lease now (old.pending ++ arrived) d.looked d.looks in
      let both = sum_by-append (weight now) old.pending arrived in
      elim goes_on [
        | inl commits ↦
            let less = weights_later now period d.end.pending in
            let many = leads_commits lease.shown seen (now + period) (begun old d.looked) d.decided.taken d.end d.decided.leads in
            let told_many = ap (λ (cs : List Commit). length cs) d.settled.commits in
            let taken = some_weight now d.decided.taken (λ none. commits (nil_from_length told.commits (omega (arith, many, told_many, ap (λ (xs : List (Arrival L)). length xs) none)))) in
            omega (arith, pending, sum, looked, both, less, taken)
        | inr time ↦
            let held_so = ap (list_any (λ (one : ℕ × Hold). is_time one.1)) (sym d.settled.held) ∙ time in
            let waits = waits_there lease.shown seen (now + period) d.end d.end.pending held_so in
            let less = weights_less now period d.end.pending waits.0 low high waits.1 waits.2 in
            omega (arith, pending, sum, looked, both, less)
      ]
