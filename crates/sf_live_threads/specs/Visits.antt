-- What visits leave as it is, and what they keep.
use Rattle.std.specs.Prelude.{◌≡◌, ◌⊎◌}
use Rattle.atomic_table.specs.Seated.{TableId}
use Rattle.sf_live_seats.specs.declared.first.FirstSeats.{FirstSeats}
use Rattle.sf_live_seats.specs.declared.locks.Locks.{Locks}
use Rattle.sf_live_threads.specs.declared.run.Stopped.{Stopped}
use Rattle.sf_live_threads.specs.declared.run.Stopped.TheVariants as stopped
use Rattle.sf_live_seats.specs.First.{IsFirst, gave_of, took_of}

module _ {B : Type 0} where
  -- no seats were given or taken in, and they are the same caller's
  pub record LeavesGiven (old new : FirstSeats B) : Type 0 where
    pub gave : gave_of new ≡ gave_of old
    pub took : took_of new ≡ took_of old
    pub caller : new.seats.by ≡ old.seats.by

  -- after any number of visits the first seats are still what they are, and the visitor keeps what it keeps
  pub record Attends {V : Type 0} (keeps : V → Locks B → FirstSeats B → Type 0) (table : TableId) (locks : Locks B) (old new : FirstSeats B) (visitor : V) : Type 0 where
    pub first : IsFirst table locks new
    pub given : LeavesGiven old new
    pub kept : keeps visitor locks new

-- what a visitor has kept where a run in threads came to no end: what it keeps at its end, where it ended it; else what it keeps from visit
-- to visit, of some first seats
abbrev pub HasLeft : {B V : Type 0} → (V → Locks B → FirstSeats B → Type 0) → (V → Type 0) → Locks B → V → Stopped → Type 0
HasLeft keeps ended locks visitor stopped.Ended = ended visitor
HasLeft {B} keeps ended locks visitor stopped.NoMemory = (first : FirstSeats B) × keeps visitor locks first

-- the same, where it may not have visited at all
abbrev pub HasLeftOrIs : {B V : Type 0} → (V → Locks B → FirstSeats B → Type 0) → (V → Type 0) → Locks B → V → V → Stopped → Type 0
HasLeftOrIs keeps ended locks old new why = (new ≡ old) ⊎ HasLeft keeps ended locks new why
