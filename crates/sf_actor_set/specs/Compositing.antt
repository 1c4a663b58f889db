-- What a compositor that shares the desk of one thread with the actors does to it.
use Rattle.std.specs.Prelude.{◌≡◌, ◌≢◌, ℕ, List, [], length}
use Rattle.atomic_table.specs.Seated.{TableId}
use Rattle.sf_actor_steps.specs.sf_surface.declared.call.QCall.TheVariants as call
use Rattle.sf_actor_steps.specs.sf_surface.declared.call.QReply.{QReply}
use Rattle.sf_actor_steps.specs.sf_surface.Reading.{eye_mark}
use Rattle.sf_actor_steps.specs.sf_surface.Tokens.{Issued, ReadLeaseOf}
use Rattle.sf_commit.specs.Releases.{ReleaseOf}
use Rattle.sf_commit.specs.sf_token.Arrivals.{Calls, sent, waiting}
use Rattle.sf_commit.specs.sf_token.Pending.{Arrival}
use Rattle.sf_actor_steps.specs.sf_turns.Views.{SeatView}
use Rattle.sf_actor_steps.specs.sf_actor.Desks.{DeskHome, DeskView, MadeCall, known_of}
use Rattle.sf_actor_steps.specs.sf_actor.Known.{AreAmong, CountsRise, GoesOn}
use Rattle.sf_actor_steps.specs.sf_actor.Plain.{PlainOf, home_of, taken_in, view_of}
use Rattle.sf_actor_steps.specs.sf_actor.Scripts.{picture_at}
use Rattle.sf_actor_steps.specs.sf_actor.Tries.{ActorOf}
use Rattle.sf_actor_set.specs.ActorSets.{ActorSetOf, KeepAs}

-- what waited was taken: nothing waits any more, all that was sent stays, and all of it was taken
pub record Takes (old new : Calls ReadLeaseOf SeatView ReadLeaseOf Issued) (batch : List (Arrival ReadLeaseOf)) : Type 0 where
  pub all : batch ≡ waiting old
  pub none_left : waiting new ≡ []
  pub stays : sent new ≡ sent old
  pub taken : taken_in new ≡ length (sent old)

-- a seat goes on as the same one: it keeps the turns that were left, and of no buffer it has seen fewer
pub record SeatGoesOn (old new : SeatView) : Type 0 where
  pub mark : eye_mark new ≡ eye_mark old
  pub left : AreAmong old.leaves new.leaves
  pub counts : CountsRise old.seen new.seen

module _ {B : Type 0} where
  -- what a desk knows goes on without an entry of an actor, whose number is not 0
  abbrev pub WithoutActors : DeskHome → DeskView B → DeskView B → Type 0
  WithoutActors home old new = (actor : ℕ) → actor ≢ 0 → GoesOn actor (known_of home old) (known_of home new)

  -- the compositor, whose number is 0, gave a frame back to its queue, for the vsync of this number
  abbrev pub GivesFrameBack : PlainOf B → PlainOf B → ℕ → ReleaseOf ReadLeaseOf → Type 0
  GivesFrameBack old new vsync release =
      (reply : QReply B)
      × MadeCall (home_of old) (view_of old) (view_of new) 0 release.queue.0 (vsync, call.Release release.lease release.fence) reply

  -- A call of the compositor, whose number is 0: the desk has what it had, but that so many of the arrivals were taken, and it
  -- goes on without an entry of an actor.
  pub record GoesOnDesk (taken : ℕ) (old new : PlainOf B) : Type 0 where
    pub home : home_of new ≡ record (home_of old) { taken = taken }
    pub goes : WithoutActors (home_of old) (view_of old) (view_of new)

  -- Nothing of an actor set changed but its desk, which has what it had, but that so many of the arrivals were taken; and each actor
  -- keeps what it kept.
  pub record OnlyDesk (table : TableId) (taken : ℕ) (old new : ActorSetOf B) : Type 0 where
    pub same : new ≡ record old { desk = new.desk }
    pub home : home_of new.desk ≡ record (home_of old.desk) { taken = taken }
    pub keep : (ofs : List (ActorOf B)) → KeepAs table (picture_at old.pictures) (home_of old.desk) (view_of old.desk) old.actors ofs
        → KeepAs table (picture_at new.pictures) (home_of new.desk) (view_of new.desk) new.actors ofs
