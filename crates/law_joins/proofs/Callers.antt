-- Who called and sent in a run in threads: its actors, and the compositor, which only gave frames back and took what arrived.
use Rattle.std.proofs.Common.{◌≡◌, ℕ, ◌==◌, false, List, [], ◌∷◌, map, refl, ap, sym, ◌∙◌, subst, inl, inr, ◌⊎◌}
use Rattle.std.specs.Prelude.{All, Contains}
use Rattle.std.specs.List.{list_any}
use Rattle.std.proofs.lemmas.Bool.{cases_Bool, eq-eqb, eqb-true, false≢true}
use Rattle.std.proofs.lemmas.List.Elements.{All-contains}
use Rattle.std.proofs.lemmas.List.Folds.{list_any-append}
use Rattle.atomic_table.specs.Seated.{TableId}
use Rattle.law_threads.specs.sf_calls.declared.object.Entry.{Entry}
use Rattle.law_threads.specs.sf_calls.Histories.{calls_by}
use Rattle.law_threads.specs.sf_calls_stamped.Stamps.{unstamp, unstamped}
use Rattle.law_threads.specs.sf_surface.Histories.{Made}
use Rattle.law_threads.specs.sf_surface.Tokens.{Issued, ReadLeaseOf}
use Rattle.law_threads.specs.sf_times.declared.protocol.Knows.{Knows}
use Rattle.law_threads.specs.sf_token.declared.arrivals.ArriveCall.TheVariants as arrive
use Rattle.law_threads.specs.sf_token.Arrivals.{is_take, sent}
use Rattle.law_threads.specs.sf_token.Pending.{Arrival}
use Rattle.law_threads.specs.sf_turns.Views.{SeatView}
use Rattle.law_threads.specs.sf_txn.declared.lease.Lease.{Ghosts}
use Rattle.law_threads.specs.sf_actor.Desks.{DeskView}
use Rattle.law_threads.specs.sf_actor.Known.{ArriveWithout, is_sent_by}
use Rattle.law_threads.specs.sf_actor.Tries.{ActorOf}
use Rattle.law_threads.proofs.law_played_lemmas.StepKeepsTold.{of_all}
use Rattle.law_threads.proofs.law_played_lemmas.Members.{has_cases, has_here, has_later, has_none, map_has}
use Rattle.law_threads.specs.law_played.Actors.{AreArrivals, IsCallBy, IsRelease, number_of}
use Rattle.law_threads.specs.sf_live_seats.declared.first.FirstSeats.{FirstSeats}
use Rattle.law_threads.specs.sf_live_seats.declared.locks.Locks.{Locks}
use Rattle.law_threads.specs.sf_live_seats.declared.seats.Seats.{Seats}
use Rattle.law_threads.specs.sf_live_seats.Arriving.{ArrivalCalls, ArrivalEntry, Arrived, Arriving}
use Rattle.law_threads.specs.sf_live_seats.Closing.{HasNoEntry, IsOrdered}
use Rattle.law_threads.specs.sf_live_seats.First.{IsFirst, KnowsNothing, took_of}
use Rattle.law_threads.specs.sf_live_seats.Seats.{takes_in, view_of}
use Rattle.law_threads.proofs.sf_live_seats_lemmas.IntakeHands.{first_known, none_arrived}
use Rattle.law_threads.proofs.sf_play_lemmas.SeenTimelines.{any_has}
use Rattle.law_joins.specs.Calls.{AreReleasesOn}
use Rattle.law_joins.specs.Logs.{OnlyFirstTakes}
use Rattle.law_joins.proofs.Fronts.{gives_same}
use Rattle.law_threads.specs.sf_live_compositor.Vsyncs.{Begin, More, Sitting, Vsyncs}

-- a number is in a list, or it is not
pub is_among : (n : ℕ) (ns : List ℕ) → Contains ns n ⊎ (Contains ns n → ⊥)
is_among n [] = inr (λ there. has_none n there)
is_among n (m ∷ ns) = elim (cases_Bool (m == n)) [
  | inl met ↦ inl (subst (Contains (m ∷ ns)) (eqb-true m n met) (has_here m ns))
  | inr unmet ↦ elim (is_among n ns) [
    | inl there ↦ inl (has_later m n ns there)
    | inr apart ↦ inr (λ there. elim (has_cases m n ns there) [
      | inl same ↦ absurd (false≢true (sym unmet ∙ eq-eqb m n same))
      | inr later ↦ apart later
    ])
  ]
]

module _ {C R : Type 0} where
  -- a call is among its caller's
  pub has_by : (by : ℕ) (calls : List (Entry C R)) (one : Entry C R) → Contains calls one → one.by ≡ by → Contains (calls_by by calls) one
  has_by by [] one there is = has_none one there
  has_by by (e ∷ calls) one there is = elim (cases_Bool (e.by == by)) [
    | inl met ↦ rw met (elim (has_cases e one calls there) [
      | inl same ↦ subst (Contains (e ∷ calls_by by calls)) same (has_here e (calls_by by calls))
      | inr later ↦ has_later e one (calls_by by calls) (has_by by calls one later is)
    ])
    | inr unmet ↦ rw unmet (elim (has_cases e one calls there) [
      | inl same ↦ absurd (false≢true (sym unmet ∙ eq-eqb e.by by (ap (λ (x : Entry C R). x.by) same ∙ is)))
      | inr later ↦ has_by by calls one later is
    ])
  ]

  -- a call without stamps is one with them
  pub unstamped_has : (calls : List (Entry (ℕ × C) (ℕ × R))) (one : Entry C R) → Contains (unstamped calls) one → (stamped : Entry (ℕ × C) (ℕ × R)) × Contains calls stamped × (unstamp stamped ≡ one)
  unstamped_has [] one there = has_none one there
  unstamped_has (e ∷ calls) one there = elim (has_cases (unstamp e) one (unstamped calls) there) [
    | inl same ↦ (e, has_here e calls, same)
    | inr later ↦ let rest = unstamped_has calls one later in (rest.0, has_later e rest.0 calls rest.1, rest.2)
  ]

-- where no stamp of a take is among calls, none of them takes
no_take_in : (calls : List ArrivalEntry) → takes_in calls ≡ [] → (one : ArrivalEntry) → Contains calls one → is_take one.call.1 ≡ false
no_take_in [] none one there = has_none one there
no_take_in (e ∷ calls) none one there = by_call e.call.1 refl (λ rest later. no_take_in calls rest one later)
  where
    by_call : (asked : Arriving) → e.call.1 ≡ asked → (takes_in calls ≡ [] → Contains calls one → is_take one.call.1 ≡ false) → is_take one.call.1 ≡ false
    by_call (arrive.Send step txn) is others = elim (has_cases e one calls there) [
      | inl same ↦ ap (λ (x : ArrivalEntry). is_take x.call.1) (sym same) ∙ ap is_take is
      | inr later ↦ others (rw is at none) later
    ]
    by_call arrive.Take is others = (let some = rw is at none in absurd (cc))

module _ {B : Type 0} (ofs : List (ActorOf B)) (view : DeskView B) where
  -- none but actors and the compositor did anything
  abbrev pub NoStrangers : Type 0
  NoStrangers = (by : ℕ) → (by ≡ 0 → ⊥) → (Contains (map number_of ofs) by → ⊥) → HasNoEntry by view

  pub are_callers : NoStrangers → (queue : ℕ) → AreReleasesOn (view.calls queue) → All (IsCallBy ofs) (view.calls queue)
  are_callers strangers queue releases = of_all (IsCallBy ofs) (view.calls queue) (λ made there. elim (cases_Bool (made.by == 0)) [
    | inl met ↦ let none = eqb-true made.by 0 met in
        inl (none, All-contains (λ (m : Made B). IsRelease m.call.1) (calls_by 0 (view.calls queue)) made releases (has_by 0 (view.calls queue) made there none))
    | inr unmet ↦ elim (is_among made.by (map number_of ofs)) [
      | inl actor ↦ inr actor
      | inr apart ↦ has_none made (subst (λ (calls : List (Made B)). Contains calls made) ((strangers made.by (λ e. false≢true (sym unmet ∙ eq-eqb made.by 0 e)) apart).calls queue) (has_by made.by (view.calls queue) made there refl))
    ]
  ])

  pub are_senders : NoStrangers → list_any (is_sent_by 0) view.arrivals ≡ false → AreArrivals ofs view
  are_senders strangers none = of_all (λ (arrived : Arrival ReadLeaseOf). Contains (map number_of ofs) arrived.actor.0) view.arrivals (λ arrived there. elim (cases_Bool (arrived.actor.0 == 0)) [
    | inl met ↦ absurd (false≢true (sym none ∙ any_has (is_sent_by 0) view.arrivals arrived there met))
    | inr unmet ↦ elim (is_among arrived.actor.0 (map number_of ofs)) [
      | inl actor ↦ actor
      | inr apart ↦ absurd (false≢true (sym (strangers arrived.actor.0 (λ e. false≢true (sym unmet ∙ eq-eqb arrived.actor.0 0 e)) apart).arrivals
          ∙ any_has (is_sent_by arrived.actor.0) view.arrivals arrived there (eq-eqb arrived.actor.0 arrived.actor.0 refl)))
    ]
  ])

module _ {B : Type 0} (lease : Ghosts ReadLeaseOf SeatView ReadLeaseOf Issued) (table : TableId) (locks : Locks B) (period : ℕ) where
  -- the compositor knows of the arrivals what its pass has seen
  pub log_known : (start last : Sitting B) → Vsyncs lease table locks period start last → KnowsNothing start.seats → last.seats.by ≡ 0 → (view_of last.seats).arrivals ≡ sent (unstamped last.seats.arrivals.seen)
  log_known start last Begin nothing first = none_arrived start.seats nothing ∙ sym (ap (λ list. sent (unstamped list)) nothing.arrivals)
  log_known start last (More {before} {after} log v) nothing first =
      first_known locks after.seats.by after.seats.arrivals.gave after.seats.last after.seats.intake after.seats.arrivals.seen first v.own.way

  -- it sends nothing
  pub log_sends : (start last : Sitting B) → Vsyncs lease table locks period start last → KnowsNothing start.seats → last.seats.by ≡ 0 → list_any (is_sent_by 0) (view_of last.seats).arrivals ≡ false
  log_sends start last Begin nothing first = ap (list_any (is_sent_by 0)) (none_arrived start.seats nothing)
  log_sends start last (More {before} {after} log v) nothing first =
      let first_then = sym v.caller ∙ first in
      let was = log_sends start before log nothing first_then in
      let goes : ArriveWithout 0 (view_of before.seats).arrivals (view_of v.took).arrivals =
      subst (λ (n : ℕ). ArriveWithout n (view_of before.seats).arrivals (view_of v.took).arrivals) (ap (λ (s : Seats B). s.by) v.look ∙ first_then)
      (subst (λ (s : Seats B). ArriveWithout v.looked.by (view_of s).arrivals (view_of v.took).arrivals) v.look v.takes.goes_on) in
      ap (λ (w : DeskView B). list_any (is_sent_by 0) w.arrivals) (gives_same _ after.number v.told.releases (view_of (record v.took { turns = v.turns })) (view_of after.seats) v.gives)
      ∙ ap (list_any (is_sent_by 0)) goes.joined ∙ list_any-append (is_sent_by 0) (view_of before.seats).arrivals goes.later ∙ (rw (was, goes.none) refl)

  -- it signals nothing
  pub log_signals : (start last : Sitting B) → Vsyncs lease table locks period start last → last.seats.times.knows.signals ≡ start.seats.times.knows.signals
  log_signals start last Begin = refl
  log_signals start last (More {before} {after} log v) =
      ap (λ (k : Knows). k.signals)
      (ap (λ (w : DeskView B). w.times) (gives_same _ after.number v.told.releases (view_of (record v.took { turns = v.turns })) (view_of after.seats) v.gives)
      ∙ ap (λ (s : Seats B). s.times.knows) v.changes.same ∙ v.sees.shown)
      ∙ log_signals start before log

module _ {B : Type 0} (table : TableId) (locks : Locks B) (first : FirstSeats B) (is_first : IsFirst table locks first) (ordered : IsOrdered first) where
  abbrev caller_of : Seats B → ℕ
  caller_of seats = seats.by

  -- callers that have seats take nothing, and nobody else called
  pub only_first : ((by : ℕ) → (by ≡ 0 → ⊥) → (Contains (map caller_of (took_of first)) by → ⊥) → calls_by by (unstamped first.seats.arrivals.seen) ≡ []) → OnlyFirstTakes (unstamped first.seats.arrivals.seen)
  only_first strangers one there takes = elim (cases_Bool (one.by == 0)) [
    | inl met ↦ eqb-true one.by 0 met
    | inr unmet ↦ elim (is_among one.by (map caller_of (took_of first))) [
      | inl seated ↦
          let seats = map_has caller_of (took_of first) one.by seated in
          let stamped = unstamped_has first.seats.arrivals.seen one there in
          let goes = ordered.arrivals_on seats.0 seats.1 in
          let by : stamped.0.by ≡ seats.0.by = ap (λ (e : Entry Arriving Arrived). e.by) stamped.2 ∙ sym seats.2 in
          let own : Contains (calls_by seats.0.by seats.0.arrivals.seen) stamped.0 = subst (λ (calls : List ArrivalEntry). Contains calls stamped.0) goes.calls (has_by seats.0.by first.seats.arrivals.seen stamped.0 stamped.1 by) in
          let none = (is_first.took seats.0 seats.1).own.takes (λ zero_is. false≢true (sym unmet ∙ eq-eqb one.by 0 (sym seats.2 ∙ zero_is))) in
          absurd (false≢true (sym (no_take_in (calls_by seats.0.by seats.0.arrivals.seen) none stamped.0 own) ∙ ap (λ (e : Entry Arriving Arrived). is_take e.call) stamped.2 ∙ takes))
      | inr apart ↦ has_none one (subst (λ (calls : ArrivalCalls). Contains calls one) (strangers one.by (λ e. false≢true (sym unmet ∙ eq-eqb one.by 0 e)) apart)
          (has_by one.by (unstamped first.seats.arrivals.seen) one there refl))
    ]
  ]
