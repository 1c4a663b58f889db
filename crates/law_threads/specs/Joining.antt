-- A run in threads at its join: the actors came back, the first seats took theirs in, and the locks were closed to a desk of one thread.
use Rattle.std.specs.Prelude.{◌≡◌, ℕ, ◌<◌, ◌≤◌, List, [], ◌∷◌, map, Contains}
use Rattle.std.specs.List.{All, AllZip, FoldsTo}
use Rattle.atomic_table.specs.Seated.{TableId}
use Rattle.law_draws.specs.sf_surface.Tokens.{Issued, ReadLeaseOf}
use Rattle.sf_turns.specs.Counts.{stock_at}
use Rattle.sf_turns.specs.Views.{SeatView}
use Rattle.law_draws.specs.sf_txn.declared.lease.Lease.{Ghosts}
use Rattle.law_draws.specs.sf_commit.Handlers.{new_handler}
use Rattle.sf_script_scene.specs.Limits.{IsWithinLimits}
use Rattle.sf_script_scene.specs.Scene.{SceneValue}
use Rattle.sf_script_scene.specs.declared.step.ActorScript.{ActorScript}
use Rattle.law_draws.specs.sf_actor.Known.{GoesOn}
use Rattle.law_draws.specs.sf_actor.Desks.{known_of}
use Rattle.law_draws.specs.sf_actor.Plain.{PlainOf, home_of as plain_home, view_of as plain_view}
use Rattle.law_draws.specs.sf_actor.Scripts.{picture_at}
use Rattle.law_draws.specs.sf_actor.Tries.{ActorOf}
use Rattle.law_draws.specs.sf_actor_steps.Playable.{MayPlay}
use Rattle.law_draws.specs.sf_actor_steps.declared.actor.Actor.{Actor}
use Rattle.law_draws.specs.sf_actor_set.Opening.{IsSortedFrom, new_actors}
use Rattle.law_draws.specs.law_played.Actors.{mark_declared}
use Rattle.law_draws.specs.law_played.Histories.{rising_queues}
use Rattle.sf_live_compositor.specs.sf_live_seats.declared.first.FirstSeats.{FirstSeats}
use Rattle.sf_live_compositor.specs.sf_live_seats.declared.locks.Locks.{Locks}
use Rattle.sf_live_compositor.specs.sf_live_seats.declared.seats.Seats.{Seats}
use Rattle.sf_live_compositor.specs.sf_live_seats.Closing.{Closes, HasNoEntry, IsOrdered}
use Rattle.sf_live_compositor.specs.sf_live_seats.First.{HasAll, IsFirst, KnowsNothing, Meets, gave_of, took_of}
use Rattle.sf_live_compositor.specs.sf_live_seats.Reuniting.{Reunites}
use Rattle.sf_live_compositor.specs.sf_live_seats.Seats.{AreSeats, home_of, marks_of, view_of}
use Rattle.sf_live_compositor.specs.sf_live_threads.Walks.{IsSound, Moment, Walk}
use Rattle.sf_live_compositor.specs.Vsyncs.{Sitting, Vsyncs}

module _ {B : Type 0} where
  abbrev pub actor_at : Moment B → Actor B
  actor_at moment = moment.actor

  abbrev pub of_at : Moment B → ActorOf B
  of_at moment = moment.of

  abbrev pub seats_at : Moment B → Seats B
  seats_at moment = moment.seats

  -- the first seats took these in, one after the other
  abbrev pub MeetsAll : FirstSeats B → List (Seats B) → FirstSeats B → Type 0
  MeetsAll start met new = FoldsTo (λ (old : FirstSeats B) (seats : Seats B) (new : FirstSeats B). Meets seats old new) start met new

  module _ (scene : SceneValue) (table : TableId) (locks : Locks B) where
    -- an actor that has done nothing, with seats of its own, which know nothing, signalled nothing and left no turn
    pub record HasNewSeats (moment : Moment B) : Type 0 where
      pub sound : IsSound table (picture_at scene.pictures) locks moment
      pub own : AreSeats table locks moment.seats
      pub served : moment.seats.by ≡ moment.of.script.number
      pub plays : MayPlay (home_of locks moment.seats) scene.pictures moment.of.script
      pub nothing : KnowsNothing moment.seats
      pub signals : (view_of moment.seats).times.signals ≡ []
      pub leaves : (view_of moment.seats).turns.leaves ≡ []

    -- it came back by tries of its steps alone
    pub record CameBack (start end : Moment B) : Type 0 where
      pub sound : IsSound table (picture_at scene.pictures) locks end
      pub own : AreSeats table locks end.seats
      pub walk : Walk table (picture_at scene.pictures) locks start end

  -- The scene's actors were given seats, with a permit for each of their dequeues, and came back; the compositor did its vsyncs meanwhile, through
  -- the first seats; these took in the seats of all actors; and the locks were closed to this desk.
  pub record Joins (lease : Ghosts ReadLeaseOf SeatView ReadLeaseOf Issued) (scene : SceneValue) (table : TableId) (period most : ℕ) (locks : Locks B)
      (last : Sitting B) (ends : List (Moment B)) (desk : PlainOf B) : Type 0 where
    pub limits : IsWithinLimits scene
    pub marks : marks_of locks ≡ map mark_declared (rising_queues scene)
    -- the actors, as they were given seats
    pub declared : List ActorScript
    pub sorted : IsSortedFrom (λ (script : ActorScript). script.number) scene.actors declared
    pub stock : List ℕ
    pub once : (number : ℕ) → stock_at number stock ≤ 1
    pub below : (number : ℕ) → Contains stock number → number < table.slots
    pub starts : List (Moment B)
    pub new : map of_at starts ≡ new_actors declared stock
    pub new_seats : All (HasNewSeats scene table locks) starts
    -- and as they came back
    pub came : AllZip (CameBack scene table locks) starts ends
    -- the compositor, from its first vsync on, over the first seats
    pub begins : Sitting B
    pub handler : begins.handler ≡ new_handler scene.width scene.height most
    pub number : begins.number ≡ 0
    pub nothing : KnowsNothing begins.seats
    pub no_leaves : begins.seats.turns.leaves ≡ []
    pub no_signals : begins.seats.times.knows.signals ≡ []
    pub log : Vsyncs lease table locks period begins last
    -- the first seats took all in, once what was left of what was sent was taken
    pub attended : FirstSeats B
    pub at_last : attended.seats ≡ record last.seats { intake = attended.seats.intake; last = attended.seats.last }
    pub none_taken : took_of attended ≡ []
    pub first : FirstSeats B
    pub reunited : List (Seats B)
    pub reunites : AllZip (Reunites locks) (map seats_at ends) reunited
    pub met : MeetsAll attended reunited first
    pub is_first : IsFirst table locks first
    pub has_all : HasAll first
    -- and the locks were closed
    pub closes : Closes locks first desk
    pub ordered : IsOrdered first
    pub goes_on : (seats : Seats B) → Contains (took_of first) seats
        → GoesOn seats.by (known_of (home_of locks seats) (view_of seats)) (known_of (plain_home desk) (plain_view desk))
    pub nobody : (by : ℕ) → (Contains (first.seats.by ∷ gave_of first) by → ⊥) → HasNoEntry by (plain_view desk)
