-- The first seats give seats to actors, one after the other.
use Rattle.std.specs.Prelude.{◌≡◌, ◌==◌, ℕ, false, List, []}
use Rattle.std.specs.List.{FoldsTo}
use Rattle.atomic_table.specs.Seated.{TableId}
use Rattle.sf_picture.specs.declared.picture.Picture.{Picture}
use Rattle.sf_actor_steps.specs.sf_actor.Desks.{DeskHome}
use Rattle.sf_actor_steps.specs.Actors.{IsActor, IsNew, new_actor}
use Rattle.sf_actor_steps.specs.Playable.{MayPlay}
use Rattle.sf_actor_steps.specs.declared.actor.Actor.{Actor}
use Rattle.sf_live_seats.specs.declared.first.FirstSeats.{FirstSeats}
use Rattle.sf_live_seats.specs.declared.locks.Locks.{Locks}
use Rattle.sf_live_seats.specs.declared.seats.Seats.{Seats}
use Rattle.sf_live_seats.specs.First.{Gives, IsFirst, KnowsNothing, KnowsSame}
use Rattle.sf_live_seats.specs.Seats.{AreSeats, marks_of, tables_of, tells_of, view_of}
use Rattle.sf_live_threads.specs.declared.seated_actor.SeatedActor.{SeatedActor}

module _ {B : Type 0} where
  abbrev pub number_of : Actor B → ℕ
  number_of actor = actor.script.number

  -- what no call changes of a desk of the caller with this number
  abbrev pub home_for : Locks B → ℕ → DeskHome
  home_for locks number = record {
    marks = marks_of locks;
    is_exact = false;
    tells = tells_of locks;
    tables = tables_of locks;
    serves = λ by. by == number;
    intake = locks.intake;
    taken = 0;
  }

  -- seats for a caller, which is not the first, that know what these know, and signalled nothing and left no turn
  pub record IsFresh (number : ℕ) (known seats : Seats B) : Type 0 where
    pub caller : seats.by ≡ number
    pub apart : seats.by ≡ 0 → ⊥
    pub knows : KnowsSame known seats
    pub nothing : KnowsNothing seats
    pub no_signals : seats.times.knows.signals ≡ []
    pub no_leaves : seats.turns.leaves ≡ []

  -- an actor has seats of its own at what is shared, and has passed no gate
  pub record GetsSeats (table : TableId) (locks : Locks B) (known : Seats B) (actor : Actor B) (seated_actor : SeatedActor B) : Type 0 where
    pub actor_is : seated_actor.actor ≡ actor
    pub own : AreSeats table locks seated_actor.seats
    pub fresh : IsFresh actor.script.number known seated_actor.seats
    pub gates : seated_actor.gates.passed ≡ 0

  -- the first seats gave some to these callers, one after the other
  abbrev pub GivesEach : FirstSeats B → List ℕ → FirstSeats B → Type 0
  GivesEach start callers new = FoldsTo (λ (old : FirstSeats B) (by : ℕ) (new : FirstSeats B). Gives by old new) start callers new

  -- it holds of the first seats after each of these callers was given some
  abbrev pub HoldsOnceSeated : TableId → Locks B → FirstSeats B → List ℕ → (FirstSeats B → Type 0) → Type 0
  HoldsOnceSeated buffers locks start callers P = (new : FirstSeats B) → IsFirst buffers locks new → GivesEach start callers new → P new

  -- An actor that has done nothing may play its script over locks of which nothing is known that is its own, and has a permit for
  -- each dequeue of it.
  pub record IsNewcomer (table : TableId) (locks : Locks B) (pictures : List Picture) (known : Seats B) (actor : Actor B) : Type 0 where
    pub stock : List ℕ
    pub is : IsActor table actor (new_actor actor.script stock)
    pub new : IsNew (home_for locks actor.script.number) (view_of known) actor.script stock
    pub plays : MayPlay (home_for locks actor.script.number) pictures actor.script
