-- Seated actors that came back of threads, as the moments at which they were given seats and came back.
use Rattle.std.specs.Prelude.{◌≡◌, List, All, map}
use Rattle.std.specs.List.{AllByRecursion, AllZip}
use Rattle.atomic_table.specs.Seated.{TableId}
use Rattle.law_threads.specs.sf_script_scene.Scene.{SceneValue}
use Rattle.law_threads.specs.sf_actor.Tries.{ActorOf}
use Rattle.law_threads.specs.sf_actor_steps.Actors.{IsActor}
use Rattle.law_threads.specs.sf_actor_steps.declared.actor.Actor.{Actor}
use Rattle.law_threads.specs.sf_live_seats.declared.locks.Locks.{Locks}
use Rattle.law_threads.specs.sf_live_seats.declared.seats.Seats.{Seats}
use Rattle.law_threads.specs.sf_live_seats.First.{KnowsNothing}
use Rattle.law_threads.specs.sf_live_threads.declared.seated_actor.SeatedActor.{SeatedActor}
use Rattle.law_threads.specs.sf_live_threads.Seating.{GetsSeats, IsNewcomer}
use Rattle.law_threads.specs.sf_live_threads.SeatedActors.{Came}
use Rattle.law_threads.specs.sf_live_threads.Walks.{Moment}
use Rattle.law_threads.specs.Joining.{CameBack, HasNewSeats, actor_at, of_at, seats_at}

module _ {B : Type 0} where
  abbrev pub seats_of_seated : SeatedActor B → Seats B
  seats_of_seated seated_actor = seated_actor.seats

  abbrev pub actor_of_seated : SeatedActor B → Actor B
  actor_of_seated seated_actor = seated_actor.actor

  abbrev pub IsUnused : SeatedActor B → Type 0
  IsUnused seated_actor = KnowsNothing seated_actor.seats

  module _ (scene : SceneValue) (table : TableId) (locks : Locks B) where
    -- Actors that had done nothing were sent out as these seated actors, with seats through which nothing was called, and these came back.
    pub record CameOfNew (known : Seats B) (ofs : List (ActorOf B)) (actors : List (Actor B)) (sent back : List (SeatedActor B)) : Type 0 where
      pub are : AllZip (IsActor table) actors ofs
      pub newcomers : AllByRecursion (IsNewcomer table locks scene.pictures known) actors
      pub gets_seats : AllZip (GetsSeats table locks known) actors sent
      pub unused : AllByRecursion IsUnused sent
      pub came : AllZip (Came table locks scene.pictures) sent back

    -- They were given seats and came back at these moments, by tries of their steps alone.
    pub record WalkedBack (ofs : List (ActorOf B)) (back : List (SeatedActor B)) : Type 0 where
      pub starts : List (Moment B)
      pub ends : List (Moment B)
      pub new : map of_at starts ≡ ofs
      pub new_seats : All (HasNewSeats scene table locks) starts
      pub came : AllZip (CameBack scene table locks) starts ends
      pub seats : map seats_at ends ≡ map seats_of_seated back
      pub actors : map actor_at ends ≡ map actor_of_seated back
