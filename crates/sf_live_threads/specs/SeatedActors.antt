-- An actor with its seats.
use Rattle.std.specs.Prelude.{◌≡◌, false, List}
use Rattle.atomic_table.specs.Seated.{TableId}
use Rattle.sf_picture.specs.declared.picture.Picture.{Picture}
use Rattle.sf_actor_steps.specs.sf_actor.declared.tried.Stepped.{Stepped}
use Rattle.sf_actor_steps.specs.sf_actor.Scripts.{picture_at}
use Rattle.sf_actor_steps.specs.sf_actor.Tries.{ActorOf, Keeps}
use Rattle.sf_actor_steps.specs.Actors.{IsActor, IsKept, Steps}
use Rattle.sf_actor_steps.specs.Playable.{MayPlay}
use Rattle.sf_live_seats.specs.declared.locks.Locks.{Locks}
use Rattle.sf_live_seats.specs.Seats.{AreSeats, home_of, view_of}
use Rattle.sf_live_threads.specs.declared.seated_actor.SeatedActor.{SeatedActor}
use Rattle.sf_live_threads.specs.Gates.{HasPassed}
use Rattle.sf_live_threads.specs.Walks.{IsSound, Moment, Walk}

module _ {B : Type 0} where
  -- what contracts see of the seated actor, at this moment
  abbrev pub moment_of : SeatedActor B → ActorOf B → Moment B
  moment_of seated_actor of = record { actor = seated_actor.actor; of = of; seats = seated_actor.seats }

module _ {B : Type 0} (table : TableId) (locks : Locks B) (pictures : List Picture) where
  -- An actor may try its next step: its seats are its own, at what is shared, and not the first caller's; it may play its script there, and keeps what it keeps over what
  -- its seats know; and it has passed the gate for each step that it tried, once.
  pub record MayTryNext (seated_actor : SeatedActor B) : Type 0 where
    pub own : AreSeats table locks seated_actor.seats
    pub apart : seated_actor.seats.by ≡ 0 → ⊥
    pub served : seated_actor.seats.by ≡ seated_actor.actor.script.number
    pub plays : MayPlay (home_of locks seated_actor.seats) pictures seated_actor.actor.script
    pub kept : IsKept table (picture_at pictures) (home_of locks seated_actor.seats) seated_actor.actor (view_of seated_actor.seats)
    pub unspent : seated_actor.actor.is_spent ≡ false
    pub gates : HasPassed seated_actor.actor seated_actor.gates

  -- one try of a seated actor's next step
  pub record TriesNext (was now : SeatedActor B) (stepped : Stepped) : Type 0 where
    pub may_try_next : MayTryNext now
    pub script : now.actor.script ≡ was.actor.script
    pub caller : now.seats.by ≡ was.seats.by
    pub steps : (of : ActorOf B) → IsActor table was.actor of → Keeps (picture_at pictures) (home_of locks was.seats) of (view_of was.seats)
        → Steps table (picture_at pictures) (home_of locks was.seats) was.actor.bindings of (view_of was.seats) now.actor (view_of now.seats) stepped

  -- what contracts see of the actor walked from the one moment to the other, where it keeps what it keeps
  pub record Walks (was : SeatedActor B) (of : ActorOf B) (now : SeatedActor B) : Type 0 where
    pub new : ActorOf B
    pub sound : IsSound table (picture_at pictures) locks (moment_of now new)
    pub walk : Walk table (picture_at pictures) locks (moment_of was of) (moment_of now new)

  -- a seated actor came to be this one by tries of its steps alone: it is the same actor, with the same script, and may still try its next step
  pub record Came (was now : SeatedActor B) : Type 0 where
    pub may_try_next : MayTryNext now
    pub script : now.actor.script ≡ was.actor.script
    pub caller : now.seats.by ≡ was.seats.by
    pub walks : (of : ActorOf B) → IsSound table (picture_at pictures) locks (moment_of was of) → Walks was of now
