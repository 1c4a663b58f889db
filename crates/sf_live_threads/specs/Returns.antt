-- What the whole of a run in threads gives back.
use Rattle.std.specs.Prelude.{◌≡◌, List, map}
use Rattle.std.specs.List.{AllZip}
use Rattle.atomic_table.specs.Seated.{TableId}
use Rattle.sf_picture.specs.declared.picture.Picture.{Picture}
use Rattle.sf_actor_steps.specs.declared.actor.Actor.{Actor}
use Rattle.sf_live_seats.specs.declared.first.FirstSeats.{FirstSeats}
use Rattle.sf_live_seats.specs.declared.locks.Locks.{Locks}
use Rattle.sf_live_threads.specs.declared.all_returned.AllReturned.{AllReturned}
use Rattle.sf_live_threads.specs.declared.seated_actor.SeatedActor.{SeatedActor}
use Rattle.sf_live_threads.specs.Seating.{GetsSeats, GivesEach, number_of}
use Rattle.sf_live_threads.specs.Backs.{AllCame}
use Rattle.sf_live_threads.specs.Meeting.{MeetsReunited, as_returned, seats_of}
use Rattle.sf_live_threads.specs.Visits.{Attends}

-- Each actor was given seats of its own, and came back by tries of its steps alone. Meanwhile the visitor was with the
-- first seats; and these then took in the seats of all, as they came back, once all that was sent was taken.
pub record Returns {B V : Type 0} (keeps : V → Locks B → FirstSeats B → Type 0) (table : TableId) (locks : Locks B) (pictures : List Picture) (first : FirstSeats B)
    (actors : List (Actor B)) (visitor : V) (all_returned : AllReturned B) : Type 0 where
  pub after_seating : FirstSeats B
  pub gives : GivesEach first (map number_of actors) after_seating
  pub sent : List (SeatedActor B)
  pub gets_seats : AllZip (GetsSeats table locks first.seats) actors sent
  pub back : List (SeatedActor B)
  pub came : AllCame table locks pictures sent back
  pub attended : FirstSeats B
  pub attends : Attends keeps table locks after_seating attended visitor
  pub met : MeetsReunited locks attended (map seats_of back) all_returned.first
  pub returned : all_returned.returned.items ≡ map as_returned back
