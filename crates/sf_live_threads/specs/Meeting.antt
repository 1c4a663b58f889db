-- The first seats take in those of seated actors, once all that was sent is taken.
use Rattle.std.specs.Prelude.{ℕ, List}
use Rattle.std.specs.List.{AllZip, FoldsTo}
use Rattle.sf_live_seats.specs.declared.first.FirstSeats.{FirstSeats}
use Rattle.sf_live_seats.specs.declared.seats.Seats.{Seats}
use Rattle.sf_live_seats.specs.declared.locks.Locks.{Locks}
use Rattle.sf_live_seats.specs.First.{Meets}
use Rattle.sf_live_seats.specs.Reuniting.{Finishes, Reunites}
use Rattle.sf_live_threads.specs.declared.all_returned.ReturnedActor.{ReturnedActor}
use Rattle.sf_live_threads.specs.declared.seated_actor.SeatedActor.{SeatedActor}

module _ {B : Type 0} where
  abbrev pub seats_of : SeatedActor B → Seats B
  seats_of seated_actor = seated_actor.seats

  abbrev pub caller_of : Seats B → ℕ
  caller_of seats = seats.by

  abbrev pub as_returned : SeatedActor B → ReturnedActor B
  as_returned seated_actor = record { actor = seated_actor.actor; gates = seated_actor.gates }

  -- the first seats took these in, one after the other
  abbrev pub MeetsEach : FirstSeats B → List (Seats B) → FirstSeats B → Type 0
  MeetsEach start met new = FoldsTo (λ (old : FirstSeats B) (seats : Seats B) (new : FirstSeats B). Meets seats old new) start met new

  -- what was left of what was sent was taken, each caller's pass came back to its seats, and the first seats took these in
  pub record MeetsReunited (locks : Locks B) (start : FirstSeats B) (ends : List (Seats B)) (new : FirstSeats B) : Type 0 where
    pub finished : FirstSeats B
    pub finishes : Finishes start finished
    pub reunited : List (Seats B)
    pub reunites : AllZip (Reunites locks) ends reunited
    pub met : MeetsEach finished reunited new
