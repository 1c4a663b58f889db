-- How an actor comes from one moment to another: by tries of its next steps.
use Rattle.std.specs.Prelude.{◌≡◌, ℕ, List, [], ◌++◌}
use Rattle.atomic_table.specs.Seated.{TableId}
use Rattle.sf_picture.specs.declared.picture.Picture.{Picture}
use Rattle.sf_actor_steps.specs.sf_actor.declared.tried.Stepped.{Stepped}
use Rattle.sf_actor_steps.specs.sf_actor.declared.tried.Stepped.TheVariants as stepped
use Rattle.sf_actor_steps.specs.sf_actor.Desks.{DeskHome, DeskView}
use Rattle.sf_actor_steps.specs.sf_actor.Rights.{Turn}
use Rattle.sf_actor_steps.specs.sf_actor.Tries.{ActorOf, Keeps, Tries, ended_by}
use Rattle.sf_actor_steps.specs.sf_actor.Written.{signals_of}
use Rattle.sf_actor_steps.specs.Actors.{IsActor, Steps}
use Rattle.sf_actor_steps.specs.declared.actor.Actor.{Actor}
use Rattle.sf_live_seats.specs.declared.locks.Locks.{Locks}
use Rattle.sf_live_seats.specs.declared.seats.Seats.{Seats}
use Rattle.sf_live_seats.specs.Seats.{AreSeats, home_of, view_of}

-- an actor, what contracts see of it, and its seats
pub record Moment (B : Type 0) : Type 0 where
  pub actor : Actor B
  pub of : ActorOf B
  pub seats : Seats B

module _ {B : Type 0} where
  -- what the seats signalled from one moment to another is what the steps between them signal
  pub record Signals (start last : Moment B) : Type 0 where
    pub more : List (ℕ × ℕ)
    pub traced : signals_of last.of.trace ≡ signals_of start.of.trace ++ more
    pub seated : (view_of last.seats).times.signals ≡ (view_of start.seats).times.signals ++ more

-- the turns that a try ended
module _ {B : Type 0} (pictures : ℕ → Picture) (home : DeskHome) (old : ActorOf B) (before : DeskView B) (new : ActorOf B) (after : DeskView B) where
  abbrev pub ended_in : (stepped : Stepped) → Tries pictures home old before new after stepped → List Turn
  ended_in stepped.Done tries = ended_by old.parts tries.1.done
  ended_in stepped.NotYet tries = []
  ended_in stepped.Ended tries = []

module _ {B : Type 0} (table : TableId) (pictures : ℕ → Picture) (locks : Locks B) where
  -- a try of the actor's next step, over a desk of its seats, which stay the same caller's
  pub record IsTry (before after : Moment B) : Type 0 where
    pub own : AreSeats table locks after.seats
    pub caller : after.seats.by ≡ before.seats.by
    pub stepped : Stepped
    pub steps : Steps table pictures (home_of locks before.seats) before.actor.bindings before.of (view_of before.seats) after.actor (view_of after.seats) stepped
    pub is : steps.new ≡ after.of

  -- one try after the other
  pub data Walk (start : Moment B) : Moment B → Type 0 where
    Begin : Walk start start
    More : {before after : Moment B} → Walk start before → IsTry before after → Walk start after

  -- the turns that were ended on the way
  abbrev pub ended_on : {start end : Moment B} → Walk start end → List Turn
  ended_on Begin = []
  ended_on (More {before} {after} walk one) =
      ended_on walk ++ ended_in pictures (home_of locks before.seats) before.of (view_of before.seats) one.steps.new (view_of after.seats) one.stepped one.steps.tries

  -- what the seats left from one moment to another is the turns that were ended on the way
  abbrev pub Leaves : {start last : Moment B} → Walk start last → Type 0
  Leaves {start} {last} walk = (view_of last.seats).turns.leaves ≡ (view_of start.seats).turns.leaves ++ ended_on walk

  -- the actor is what contracts see of it, and keeps what it keeps over what its seats know
  pub record IsSound (moment : Moment B) : Type 0 where
    pub is : IsActor table moment.actor moment.of
    pub keeps : Keeps pictures (home_of locks moment.seats) moment.of (view_of moment.seats)
