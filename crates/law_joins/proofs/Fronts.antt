-- What a compositor's seats knew before a vsync is known after it.
use Rattle.std.proofs.Common.{◌≡◌, ℕ, ◌≤◌, ◌==◌, List, [], ◌∷◌, ◌++◌, ap, sym, ◌∙◌, subst, inl, inr, arith}
use Rattle.std.specs.Prelude.{Contains}
use Rattle.std.proofs.lemmas.Bool.{cases_Bool, eq-eqb, eqb-true, false≢true}
use Rattle.std.proofs.lemmas.List.{append_assoc}
use Rattle.std.proofs.lemmas.List.Elements.{Contains-append_left}
use Rattle.atomic_table.specs.Seated.{TableId}
use Rattle.sf_base.specs.Points.{greatest, points_from}
use Rattle.law_threads.specs.sf_calls.Histories.{Begins, entry}
use Rattle.law_threads.specs.sf_calls_stamped.Stamps.{unstamped}
use Rattle.law_threads.specs.sf_surface.declared.call.QCall.TheVariants as call
use Rattle.law_threads.specs.sf_surface.Histories.{Made}
use Rattle.law_threads.specs.sf_surface.Tokens.{Issued, ReadLeaseOf}
use Rattle.law_threads.specs.sf_times.declared.protocol.Knows.{Knows}
use Rattle.law_threads.specs.sf_token.declared.arrivals.ArriveCall.TheVariants as arrive
use Rattle.law_threads.specs.sf_token.declared.arrivals.ArriveReply.TheVariants as reply
use Rattle.law_threads.specs.sf_turns.Views.{SeatView}
use Rattle.law_threads.specs.sf_txn.declared.lease.Lease.{Ghosts}
use Rattle.law_threads.specs.sf_commit.Releases.{ReleaseOf}
use Rattle.law_threads.specs.sf_actor.Desks.{DeskHome, DeskView}
use Rattle.law_threads.specs.sf_actor.Known.{AreAmong}
use Rattle.law_threads.specs.law_rights.Standing.{GiveAll, GivesOne}
use Rattle.law_threads.specs.sf_live_seats.declared.locks.Locks.{Locks}
use Rattle.law_threads.specs.sf_live_seats.declared.seats.Seats.{Seats}
use Rattle.law_threads.specs.sf_live_seats.Arriving.{ArrivalCalls, ArrivalsPass}
use Rattle.law_threads.specs.sf_live_seats.Seats.{calls_known, home_of, view_of}
use Rattle.law_joins.specs.Logs.{IsKnown}
use Rattle.law_threads.specs.sf_live_compositor.Vsyncs.{IsVsync, Sitting}

pub begins_on : {A : Type 0} (xs ys zs : List A) → Begins xs ys → Begins ys zs → Begins xs zs
begins_on xs ys zs one two = (two.0 ++ one.0, two.1 ∙ ap (λ (l : List _). two.0 ++ l) one.1 ∙ sym (append_assoc two.0 one.0 xs))

pub begins_same : {A : Type 0} (xs ys : List A) → ys ≡ xs → Begins xs ys
begins_same xs ys same = ([], same)

module _ {B : Type 0} where
  module _ (home : DeskHome) (number : ℕ) where
    -- a frame that goes back adds a call
    one_begins : (release : ReleaseOf ReadLeaseOf) (old new : DeskView B) → GivesOne home number release old new → (queue : ℕ) → Begins (old.calls queue) (new.calls queue)
    one_begins release old new one queue = elim (cases_Bool (queue == release.queue.0)) [
      | inl met ↦
          let given : Made B = entry 0 (number, call.Release release.lease release.fence) one.reply in
          subst (λ (q : ℕ). Begins (old.calls q) (new.calls q)) (sym (eqb-true queue release.queue.0 met))
          (given ∷ one.made.goes_on.begins.0, one.made.newest ∙ ap (λ (cs : List (Made B)). given ∷ cs) one.made.goes_on.begins.1)
      | inr unmet ↦ begins_same (old.calls queue) (new.calls queue) (one.made.changes.others queue (λ same. false≢true (sym unmet ∙ eq-eqb queue release.queue.0 same)))
    ]

    pub gives_begin : (releases : List (ReleaseOf ReadLeaseOf)) (old new : DeskView B) → GiveAll home number releases old new → (queue : ℕ) → Begins (old.calls queue) (new.calls queue)
    gives_begin [] old new gives queue = begins_same (old.calls queue) (new.calls queue) (ap (λ (v : DeskView B). v.calls queue) gives)
    gives_begin (release ∷ later) old new gives queue =
        begins_on (old.calls queue) (gives.0.calls queue) (new.calls queue) (one_begins release old gives.0 gives.1 queue) (gives_begin later gives.0 new gives.2 queue)

    -- nothing else is learnt
    pub gives_same : (releases : List (ReleaseOf ReadLeaseOf)) (old new : DeskView B) → GiveAll home number releases old new → new ≡ record old { calls = new.calls; locked = new.locked }
    gives_same [] old new gives = ap (λ (v : DeskView B). record v { calls = new.calls; locked = new.locked }) gives
    gives_same (release ∷ later) old new gives =
        gives_same later gives.0 new gives.2 ∙ ap (λ (v : DeskView B). record v { calls = new.calls; locked = new.locked }) gives.1.made.changes.same

  module _ (lease : Ghosts ReadLeaseOf SeatView ReadLeaseOf Issued) (table : TableId) (locks : Locks B) (period : ℕ) (before after : Sitting B) (v : IsVsync lease table locks period before after) where
    -- the seats that took: they have the same passes at queues, and were shown the same of timelines
    pub queues_took : v.took.queues ≡ before.seats.queues
    queues_took = ap (λ (s : Seats B). s.queues) v.changes.same ∙ ap (λ (s : Seats B). s.queues) v.look

    pub calls_took : (view_of v.took).calls ≡ (view_of before.seats).calls
    calls_took = (λ i. calls_known (queues_took i).items)

    pub arrivals_looked : v.looked.arrivals ≡ before.seats.arrivals
    arrivals_looked = ap (λ (s : Seats B). s.arrivals) v.look

    pub times_after : after.seats.times.knows ≡ v.looked.times.knows
    times_after =
        ap (λ (w : DeskView B). w.times) (gives_same (home_of locks v.took) after.number v.told.releases (view_of (record v.took { turns = v.turns })) (view_of after.seats) v.gives)
        ∙ ap (λ (s : Seats B). s.times.knows) v.changes.same

    pub turns_after : after.seats.turns ≡ v.turns
    turns_after = ap (λ (w : DeskView B). w.turns) (gives_same (home_of locks v.took) after.number v.told.releases (view_of (record v.took { turns = v.turns })) (view_of after.seats) v.gives)

    pub calls_begin : (queue : ℕ) → Begins ((view_of before.seats).calls queue) ((view_of after.seats).calls queue)
    calls_begin queue = subst (λ (cs : ℕ → List (Made B)). Begins (cs queue) ((view_of after.seats).calls queue)) calls_took
        (gives_begin (home_of locks v.took) after.number v.told.releases (view_of (record v.took { turns = v.turns })) (view_of after.seats) v.gives queue)

    pub took_begins : Begins (unstamped v.looked.arrivals.seen) (unstamped v.took.arrivals.seen)
    took_begins =
        let take = entry v.looked.arrivals.by arrive.Take (reply.Batch v.arrived) in
        (take ∷ v.takes.took.goes_on.begins.0, v.takes.took.newest ∙ ap (λ (calls : ArrivalCalls). take ∷ calls) v.takes.took.goes_on.begins.1)

    pub arrivals_begin : Begins (unstamped before.seats.arrivals.seen) (unstamped after.seats.arrivals.seen)
    arrivals_begin =
        subst (λ (a : ArrivalsPass). Begins (unstamped before.seats.arrivals.seen) (unstamped a.seen)) (sym v.arrivals)
        (subst (λ (a : ArrivalsPass). Begins (unstamped a.seen) (unstamped v.took.arrivals.seen)) arrivals_looked took_begins)

    shown_on : AreAmong before.seats.times.knows.shown after.seats.times.knows.shown
    shown_on p there = subst (λ (k : Knows). Contains k.shown p) (sym (times_after ∙ v.sees.shown)) (Contains-append_left before.seats.times.knows.shown (points_from 1 v.seen.values) p there)

    pub known_before : (joined : DeskView B) (arriving : ArrivalCalls) → IsKnown joined arriving after.seats → IsKnown joined arriving before.seats
    known_before joined arriving known = record {
      calls = λ queue. begins_on ((view_of before.seats).calls queue) ((view_of after.seats).calls queue) (joined.calls queue) (calls_begin queue) (known.calls queue);
      arrivals = begins_on (unstamped before.seats.arrivals.seen) (unstamped after.seats.arrivals.seen) arriving arrivals_begin known.arrivals;
      shown = λ p there. known.shown p (shown_on p there);
      counts = λ buffer. rises buffer (v.stays.seen buffer) (known.counts buffer);
    }
      where
        rises : (buffer : ℕ) → greatest buffer before.seats.turns.seen ≤ greatest buffer after.seats.turns.seen → greatest buffer after.seats.turns.seen ≤ greatest buffer joined.turns.seen
            → greatest buffer before.seats.turns.seen ≤ greatest buffer joined.turns.seen
        rises buffer one two = omega (arith, one, two)
