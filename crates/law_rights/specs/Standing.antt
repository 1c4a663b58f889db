-- The ledger of a run between two calls of a player: the actors over their desk, and the compositor.
use Rattle.std.specs.Prelude.{◌≡◌, ℕ, ◌<◌, ◌≤◌, true, false, List, [], ◌∷◌, ◌++◌, drop, length, map, replicate, All, Contains, None}
use Rattle.std.specs.List.{flat_map}
use Rattle.sf_base.specs.declared.fences.Seen.{Seen}
use Rattle.sf_actor_set.specs.sf_surface.declared.call.QCall.TheVariants as call
use Rattle.sf_actor_set.specs.sf_surface.declared.call.QReply.{QReply}
use Rattle.sf_actor_set.specs.sf_surface.Tokens.{Issued, ReadLeaseOf}
use Rattle.sf_actor_set.specs.sf_token.Pending.{Arrival}
use Rattle.sf_actor_set.specs.sf_turns.Counts.{stock_at}
use Rattle.sf_actor_set.specs.sf_turns.Views.{SeatView}
use Rattle.sf_actor_set.specs.sf_txn.declared.lease.Lease.{Ghosts}
use Rattle.sf_actor_set.specs.sf_commit.Handlers.{Decides, HandlerOf}
use Rattle.sf_actor_set.specs.sf_commit.Releases.{ReleaseOf, CommittedOf}
use Rattle.sf_actor_set.specs.sf_actor.Desks.{DeskHome, DeskView, MadeCall, has_queue}
use Rattle.sf_actor_set.specs.sf_actor.Tries.{ActorOf}
use Rattle.law_rights.specs.Ledgers.{IsLedger}
use Rattle.law_rights.specs.States.{AreApart, State, ledger_of}
use Rattle.law_rights.specs.Vsyncs.{IsOfTurns, lease_on}

module _ {B : Type 0} where
  abbrev pub stock_of : ActorOf B → List ℕ
  stock_of of = of.stock

  -- what was sent and not taken is on its way, and what the compositor holds
  abbrev pub state_of : DeskHome → DeskView B → List (ActorOf B) → HandlerOf ReadLeaseOf → State B
  state_of home view ofs handler = record {
    marks = home.marks;
    view = view;
    actors = ofs;
    waiting = handler.pending ++ drop home.taken view.arrivals;
    on = map lease_on handler.on;
  }

  -- the ledger stands; and of so many buffers each is in one stock at most
  pub record LedgerStands (buffers : ℕ) (home : DeskHome) (view : DeskView B) (ofs : List (ActorOf B)) (handler : HandlerOf ReadLeaseOf) : Type 0 where
    pub ledger : IsLedger (ledger_of (state_of home view ofs handler))
    pub exact : home.is_exact ≡ true
    pub apart : AreApart home.marks
    pub once : (number : ℕ) → stock_at number (flat_map stock_of ofs) ≤ 1
    pub below : (number : ℕ) → Contains (flat_map stock_of ofs) number → number < buffers

  -- an actor that has done nothing
  pub record IsFresh (of : ActorOf B) : Type 0 where
    pub names : of.parts.names ≡ replicate 32 None
    pub transactions : of.parts.transactions ≡ replicate 65 None
    pub trace : of.trace ≡ []

  -- nothing has happened
  pub record Begins (buffers : ℕ) (home : DeskHome) (view : DeskView B) (ofs : List (ActorOf B)) (handler : HandlerOf ReadLeaseOf) : Type 0 where
    pub fresh : All IsFresh ofs
    pub calls : (queue : ℕ) → view.calls queue ≡ []
    pub arrivals : view.arrivals ≡ []
    pub leaves : view.turns.leaves ≡ []
    pub pending : handler.pending ≡ []
    pub on : handler.on ≡ []
    pub exact : home.is_exact ≡ true
    pub apart : AreApart home.marks
    pub once : (number : ℕ) → stock_at number (flat_map stock_of ofs) ≤ 1
    pub below : (number : ℕ) → Contains (flat_map stock_of ofs) number → number < buffers

  -- a frame goes back in a call of the compositor, whose number is 0; and so do these, one after another
  pub record GivesOne (home : DeskHome) (number : ℕ) (release : ReleaseOf ReadLeaseOf) (old new : DeskView B) : Type 0 where
    pub reply : QReply B
    pub made : MadeCall home old new 0 release.queue.0 (number, call.Release release.lease release.fence) reply

  abbrev pub GiveAll : DeskHome → ℕ → List (ReleaseOf ReadLeaseOf) → DeskView B → DeskView B → Type 0
  GiveAll home number [] old new = new ≡ old
  GiveAll home number (release ∷ later) old new = (mid : DeskView B) × GivesOne home number release old mid × GiveAll home number later mid new

  -- all that was sent is taken
  abbrev pub home_taken : DeskHome → DeskView B → DeskHome
  home_taken home view = record home { taken = length view.arrivals }

  -- A vsync: all that was not yet taken arrives, the compositor decides, and what goes is given back. Until then the frames that go lie
  -- with those on layers, as leases alone.
  pub record VsyncIn (lease : Ghosts ReadLeaseOf SeatView ReadLeaseOf Issued) (home : DeskHome) (old : DeskView B) (handler : HandlerOf ReadLeaseOf)
      (new : DeskView B) (after : HandlerOf ReadLeaseOf) : Type 0 where
    pub of_turns : IsOfTurns lease
    pub unlent : handler.lent ≡ None
    pub arrived : List (Arrival ReadLeaseOf)
    pub all : arrived ≡ drop home.taken old.arrivals
    pub seen : Seen
    pub expected : ℕ
    pub told : CommittedOf ReadLeaseOf
    pub decided : DeskView B
    pub calls : decided.calls ≡ old.calls
    pub arrivals : decided.arrivals ≡ old.arrivals
    pub decides : Decides lease handler old.turns arrived seen expected told after decided.turns
    pub number : ℕ
    pub gives : GiveAll (home_taken home old) number told.releases decided new
    pub not_called : (queue : ℕ) → has_queue home queue ≡ false → new.calls queue ≡ []
