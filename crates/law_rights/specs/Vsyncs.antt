-- A vsync of a compositor, as a change of a state: what it decides, and each release behind it.
use Rattle.std.specs.Prelude.{◌≡◌, ℕ, true, List, map, ◌++◌, ◌∷◌, None}
use Rattle.sf_base.specs.Fences.{Fence}
use Rattle.sf_base.specs.declared.fences.Seen.{Seen}
use Rattle.sf_actor_set.specs.sf_surface.declared.call.QCall.TheVariants as call
use Rattle.sf_actor_set.specs.sf_surface.declared.call.QReply.{QReply}
use Rattle.sf_actor_set.specs.sf_surface.Tokens.{Issued, ReadLeaseOf}
use Rattle.sf_actor_set.specs.sf_token.Pending.{Arrival}
use Rattle.sf_actor_set.specs.sf_turns.Views.{SeatView}
use Rattle.sf_actor_set.specs.sf_txn.declared.lease.Lease.{Ghosts}
use Rattle.sf_actor_set.specs.sf_commit.Handlers.{Decides, HandlerOf}
use Rattle.sf_actor_set.specs.sf_commit.Lending.{ends_of, left_if, reads_of}
use Rattle.sf_actor_set.specs.sf_commit.OnLayers.{OnLayer}
use Rattle.sf_actor_set.specs.sf_commit.Releases.{ReleaseOf, CommittedOf}
use Rattle.sf_actor_set.specs.sf_actor.Desks.{DeskHome, MadeCall, has_queue}
use Rattle.sf_actor_set.specs.sf_actor.Rights.{turn_by}
use Rattle.law_rights.specs.Moves.{turn_after}
use Rattle.law_rights.specs.States.{AreApart, State}

-- the leases of what is on layers, and of what goes back
abbrev pub lease_on : OnLayer ReadLeaseOf → ReadLeaseOf
lease_on one = one.lease

abbrev pub lease_back : ReleaseOf ReadLeaseOf → ReadLeaseOf
lease_back release = release.lease

-- a lease of turns: its read ends its turn, a lease that is handed on has the next one, and the ends are those that left through the seat
pub record IsOfTurns (lease : Ghosts ReadLeaseOf SeatView ReadLeaseOf Issued) : Type 0 where
  pub end : (l : ReadLeaseOf) → lease.end l ≡ turn_by l.turn
  pub next_end : (l : ReadLeaseOf) → lease.next_end l ≡ turn_after (turn_by l.turn)
  pub ends : (eye : SeatView) → lease.ends eye ≡ eye.leaves

module _ {B : Type 0} where
  -- A compositor decided and read: it had all that was on its way, and the frames on layers; what goes has yet to be released.
  -- Its eye may be one of several: the turns whose reads it ended have left through some eye.
  pub record DecidesIn (lease : Ghosts ReadLeaseOf SeatView ReadLeaseOf Issued) (old new : State B) : Type 0 where
    pub of_turns : IsOfTurns lease
    pub handler : HandlerOf ReadLeaseOf
    pub after : HandlerOf ReadLeaseOf
    pub arrived : List (Arrival ReadLeaseOf)
    pub seen : Seen
    pub expected : ℕ
    pub told : CommittedOf ReadLeaseOf
    pub unlent : handler.lent ≡ None
    pub eye : SeatView
    pub next_eye : SeatView
    pub decides : Decides lease handler eye arrived seen expected told after next_eye
    pub leaves : new.view.turns.leaves ≡ old.view.turns.leaves ++ ends_of lease (left_if handler.lent (reads_of decides.end.stage.gone))
    pub same : new ≡ record old { view = new.view; waiting = new.waiting; on = new.on }
    pub calls : new.view.calls ≡ old.view.calls
    pub waiting_old : old.waiting ≡ handler.pending ++ arrived
    pub waiting_new : new.waiting ≡ after.pending
    pub on_old : old.on ≡ map lease_on handler.on
    pub on_new : new.on ≡ map lease_back told.releases ++ map lease_on after.on

  -- A frame that is held goes back to a queue; one that the queue refuses is dropped.
  pub record ReleasesIn (home : DeskHome) (old new : State B) : Type 0 where
    pub exact : home.is_exact ≡ true
    pub apart : AreApart home.marks
    pub marks : old.marks ≡ home.marks
    pub by : ℕ
    pub place : ℕ
    pub queue : ℕ
    pub there : has_queue home queue ≡ true
    pub lease : ReadLeaseOf
    pub fence : Fence
    pub reply : QReply B
    pub made : MadeCall home old.view new.view by queue (place, call.Release lease fence) reply
    pub held : old.on ≡ lease ∷ new.on
    pub same : new ≡ record old { view = new.view; on = new.on }
