-- The ledger stands from the beginning, and a vsync leaves it standing.
use Rattle.std.proofs.Common.{◌≡◌, ◌≢◌, ℕ, ◌+◌, ◌≤◌, ◌⊎◌, true, false, List, [], ◌∷◌, ◌++◌, arith, ap, ◌∙◌, sym, refl, inl, inr, subst, length, map, drop}
use Rattle.std.proofs.lemmas.Bool.{cases_Bool, cases_eq}
use Rattle.std.proofs.lemmas.List.{append-nil}
use Rattle.sf_actor_set.specs.sf_calls.Histories.{entry}
use Rattle.sf_actor_set.specs.sf_commit.Handlers.{HandlerOf}
use Rattle.sf_actor_set.specs.sf_commit.Lending.{ends_of, left_if, reads_of}
use Rattle.sf_actor_set.specs.sf_commit.Releases.{ReleaseOf}
use Rattle.sf_actor_set.specs.sf_surface.declared.call.QCall.TheVariants as call
use Rattle.sf_actor_set.specs.sf_surface.Histories.{Made}
use Rattle.sf_actor_set.specs.sf_surface.Tokens.{Issued, ReadLeaseOf}
use Rattle.sf_actor_set.specs.sf_token.Pending.{Arrival}
use Rattle.sf_actor_set.specs.sf_turns.Views.{SeatView}
use Rattle.sf_actor_set.specs.sf_txn.declared.lease.Lease.{Ghosts}
use Rattle.sf_actor_set.specs.sf_actor.Desks.{DeskHome, DeskView, MadeCall, has_queue}
use Rattle.sf_actor_set.specs.sf_actor.Rights.{Turn}
use Rattle.sf_actor_set.specs.sf_actor.Tries.{ActorOf}
use Rattle.law_rights.specs.Ledgers.{IsLedger}
use Rattle.law_rights.specs.PlaceTries.{ReturnAll, ReturnsIn, TellsPlaces}
use Rattle.law_rights.specs.Standing.{GiveAll, LedgerStands, VsyncIn, home_taken, state_of}
use Rattle.law_rights.specs.States.{AreApart, State, ledger_of}
use Rattle.law_rights.specs.Vsyncs.{DecidesIn, lease_back, lease_on}
use Rattle.law_rights.proofs.VsyncRights.{decides_rests}
use Rattle.law_rights.proofs.ReadLeases.{vsync_keeps}
use Rattle.law_rights.proofs.ReturnedFrames.{return_places}
use Rattle.law_rights.proofs.ReleasedFrames.{returned_keeps}

drop_all : {A : Type 0} (xs : List A) → drop (length xs) xs ≡ []
drop_all [] = refl
drop_all (x ∷ xs) = drop_all xs

not_more : (n : ℕ) → n + 1 ≤ 0 → ⊥
not_more n less = omega (arith, less)

module _ {B : Type 0} (home : DeskHome) (number : ℕ) where
  -- what was called stays called
  calls_stay : (releases : List (ReleaseOf ReadLeaseOf)) (old new : DeskView B) (queue : ℕ) → home.is_exact ≡ true → GiveAll home number releases old new → length (old.calls queue) ≤ length (new.calls queue)
  calls_stay [] old new queue exact gives =
      let e = ap (λ (view : DeskView B). length (view.calls queue)) gives in
      omega (arith, e)
  calls_stay (release ∷ later) old new queue exact gives =
      let rest = calls_stay later gives.0 new queue exact gives.2 in
      by_queue rest (cases_eq queue release.queue.0)
    where
      by_queue : length (gives.0.calls queue) ≤ length (new.calls queue) → (queue ≡ release.queue.0) ⊎ (queue ≢ release.queue.0) → length (old.calls queue) ≤ length (new.calls queue)
      by_queue rest (inl same) =
          let made = gives.1.made in
          let newest = ap length (made.newest ∙ ap (λ (calls : List (Made B)). entry 0 (number, call.Release release.lease release.fence) gives.1.reply ∷ calls) (made.alone exact)) in
          let a = ap (λ (q : ℕ). length (gives.0.calls q)) same in
          let b = ap (λ (q : ℕ). length (old.calls q)) same in
          omega (arith, rest, newest, a, b)
      by_queue rest (inr apart) =
          let e = ap length (gives.1.made.changes.others queue apart) in
          omega (arith, rest, e)

  -- the frames that go were given back
  gives_return : (releases : List (ReleaseOf ReadLeaseOf)) (st : State B) (on : List ReadLeaseOf) (new : DeskView B) → home.is_exact ≡ true → AreApart home.marks → st.marks ≡ home.marks
      → ((queue : ℕ) → has_queue home queue ≡ false → new.calls queue ≡ []) → GiveAll home number releases st.view new
      → ReturnAll 0 number (map lease_back releases) (record st { on = map lease_back releases ++ on }) (record st { view = new; on = on })
  gives_return [] st on new exact apart marks not_called gives = ap (λ (view : DeskView B). record st { view = view; on = on }) gives
  gives_return (release ∷ later) st on new exact apart marks not_called gives = (
    record st { view = mid; on = map lease_back later ++ on },
    record {
      queue = release.queue.0;
      fence = release.fence;
      reply = gives.1.reply;
      made = return_places home (record st { on = release.lease ∷ map lease_back later ++ on }) (record st { view = mid; on = map lease_back later ++ on }) (record {
        exact = exact;
        apart = apart;
        marks = marks;
        by = 0;
        place = number;
        queue = release.queue.0;
        there = there;
        lease = release.lease;
        fence = release.fence;
        reply = gives.1.reply;
        made = made;
        held = refl;
        same = refl;
      });
    },
    gives_return later (record st { view = mid }) on new exact apart marks not_called gives.2,
  )
    where
      mid : DeskView B
      mid = gives.0

      made : MadeCall home st.view mid 0 release.queue.0 (number, call.Release release.lease release.fence) gives.1.reply
      made = gives.1.made

      there : has_queue home release.queue.0 ≡ true
      there = elim (cases_Bool (has_queue home release.queue.0)) [
        | inl met ↦ met
        | inr unmet ↦
            let newest = ap length made.newest in
            let stays = calls_stay later mid new release.queue.0 exact gives.2 in
            let none = ap length (not_called release.queue.0 unmet) in
            absurd (omega (arith, newest, stays, none))
      ]

module _ {B : Type 0} where
  arrivals_stay : (home : DeskHome) (number : ℕ) (releases : List (ReleaseOf ReadLeaseOf)) (old new : DeskView B) → GiveAll home number releases old new → new.arrivals ≡ old.arrivals
  arrivals_stay home number [] old new gives = ap (λ (view : DeskView B). view.arrivals) gives
  arrivals_stay home number (release ∷ later) old new gives =
      arrivals_stay home number later gives.0 new gives.2 ∙ ap (λ (view : DeskView B). view.arrivals) gives.1.made.changes.same

  module _ (lease : Ghosts ReadLeaseOf SeatView ReadLeaseOf Issued) (buffers : ℕ) (home : DeskHome) (ofs : List (ActorOf B)) (old new : DeskView B) (handler after : HandlerOf ReadLeaseOf) (vsync : VsyncIn lease home old handler new after)
      (stands : LedgerStands buffers home old ofs handler) where
    -- what was decided: what goes has yet to be given back
    abbrev decided : State B
    decided = record {
      marks = home.marks;
      view = vsync.decided;
      actors = ofs;
      waiting = after.pending;
      on = map lease_back vsync.told.releases ++ map lease_on after.on;
    }

    decides_in : DecidesIn lease (state_of home old ofs handler) decided
    decides_in = record {
      of_turns = vsync.of_turns;
      handler = handler;
      after = after;
      arrived = vsync.arrived;
      seen = vsync.seen;
      expected = vsync.expected;
      told = vsync.told;
      unlent = vsync.unlent;
      eye = old.turns;
      next_eye = vsync.decided.turns;
      decides = vsync.decides;
      leaves =
          sym (vsync.of_turns.ends vsync.decided.turns) ∙ vsync.decides.settled.reads.ends
          ∙ ap (λ (xs : List Turn). xs ++ ends_of lease (left_if handler.lent (reads_of vsync.decides.end.stage.gone))) (vsync.of_turns.ends old.turns);
      same = refl;
      calls = vsync.calls;
      waiting_old = ap (λ (xs : List (Arrival ReadLeaseOf)). handler.pending ++ xs) (sym vsync.all);
      waiting_new = refl;
      on_old = refl;
      on_new = refl;
    }

    was_decided : IsLedger (ledger_of decided)
    was_decided = vsync_keeps lease (state_of home old ofs handler) decided decides_in stands.ledger

    same_arrivals : new.arrivals ≡ old.arrivals
    same_arrivals = arrivals_stay (home_taken home old) vsync.number vsync.told.releases vsync.decided new vsync.gives ∙ vsync.arrivals

    none_waits : after.pending ≡ after.pending ++ drop (length old.arrivals) new.arrivals
    none_waits = sym (ap (λ (xs : List (Arrival ReadLeaseOf)). after.pending ++ drop (length old.arrivals) xs) same_arrivals ∙ ap (λ (xs : List (Arrival ReadLeaseOf)). after.pending ++ xs) (drop_all old.arrivals) ∙ append-nil after.pending)

    returns : ReturnAll 0 vsync.number (map lease_back vsync.told.releases) decided (state_of (home_taken home old) new ofs after)
    returns = subst (λ (waiting : List (Arrival ReadLeaseOf)). ReturnAll 0 vsync.number (map lease_back vsync.told.releases) decided (record decided { view = new; waiting = waiting; on = map lease_on after.on })) none_waits
        (gives_return (home_taken home old) vsync.number vsync.told.releases decided (map lease_on after.on) new stands.exact stands.apart refl vsync.not_called vsync.gives)

    given : IsLedger (ledger_of (state_of (home_taken home old) new ofs after))
    given = returned_keeps 0 vsync.number (map lease_back vsync.told.releases) decided (state_of (home_taken home old) new ofs after) returns was_decided

    pub vsync_stands : LedgerStands buffers (home_taken home old) new ofs after
    vsync_stands = record { ledger = given; exact = stands.exact; apart = stands.apart; once = stands.once; below = stands.below }

    -- the rights rest where they were, and what goes goes back
    pub vsync_returns : TellsPlaces lease → ReturnsIn 0 vsync.number (state_of home old ofs handler) (state_of (home_taken home old) new ofs after)
    vsync_returns tells = record {
      mid = decided;
      rests = record { marks = refl; calls = vsync.calls; places = decides_rests lease tells (state_of home old ofs handler) decided decides_in; ledger = was_decided };
      leases = map lease_back vsync.told.releases;
      returns = returns;
    }
