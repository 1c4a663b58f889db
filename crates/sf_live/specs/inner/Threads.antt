-- A run in threads, once all came back and the locks are closed.
use Rattle.std.specs.Prelude.{◌≡◌, ℕ, ◌≤◌, List, ◌∷◌, map, Contains, Option, Result, IfOk}
use Rattle.std.specs.List.{AllByRecursion}
use Rattle.atomic_table.specs.Seated.{TableId}
use Rattle.sf_picture.specs.declared.picture.Picture.{Picture}
use Rattle.sf_live_compositor.specs.sf_surface.Tokens.{Issued, ReadLeaseOf}
use Rattle.sf_turns.specs.Views.{SeatView}
use Rattle.sf_live_compositor.specs.sf_txn.declared.lease.Lease.{Ghosts}
use Rattle.sf_script_scene.specs.Limits.{most_layers}
use Rattle.sf_script_scene.specs.Scene.{SceneValue}
use Rattle.sf_live_compositor.specs.sf_actor.Desks.{known_of}
use Rattle.sf_live_compositor.specs.sf_actor.Known.{GoesOn}
use Rattle.sf_live_compositor.specs.sf_actor.Plain.{PlainOf, home_of as plain_home, view_of as plain_view}
use Rattle.sf_live_compositor.specs.sf_actor_steps.declared.actor.Actor.{Actor}
use Rattle.sf_live_compositor.specs.law_played.Frames.{plan_of}
use Rattle.sf_live_compositor.specs.sf_output_screen.ScreenLists.{AreShown}
use Rattle.sf_live_compositor.specs.sf_output_screen.declared.screens.OutputScreen.{OutputScreen}
use Rattle.sf_live_compositor.specs.sf_play_write.Writing.{Writes}
use Rattle.sf_live_compositor.specs.sf_live_seats.declared.first.FirstSeats.{FirstSeats}
use Rattle.sf_live_compositor.specs.sf_live_seats.declared.locks.Locks.{Locks}
use Rattle.sf_live_compositor.specs.sf_live_seats.declared.seats.Seats.{Seats}
use Rattle.sf_live_compositor.specs.sf_live_seats.Closing.{Closes, HasNoEntry, IsOrdered}
use Rattle.sf_live_compositor.specs.sf_live_seats.First.{gave_of, took_of}
use Rattle.sf_live_compositor.specs.sf_live_seats.Seats.{home_of, view_of}
use Rattle.sf_live_compositor.specs.sf_live_threads.declared.all_returned.AllReturned.{AllReturned}
use Rattle.sf_live_compositor.specs.sf_live_threads.declared.all_returned.ReturnedActor.{ReturnedActor}
use Rattle.sf_live_compositor.specs.sf_live_threads.declared.gates.Gates.{Gates}
use Rattle.sf_live_compositor.specs.sf_live_threads.Gates.{HasPassed, HavePassed}
use Rattle.sf_live_compositor.specs.sf_live_threads.Walks.{Moment}
use Rattle.sf_live_compositor.specs.Sitting.{AreFound, records_shown, showings_of}
use Rattle.sf_live_compositor.specs.Vsyncs.{Sitting, Vsyncs}
use Rattle.law_live_order.specs.law_joins.law_threads.Joining.{Joins, actor_at}
use Rattle.law_live_order.specs.law_joins.Joined.{IsJoined, actor_set_joined}
use Rattle.sf_live.specs.declared.threads.Joined.{Joined}

-- a run in threads: its scene, where its compositor came to, of which timelines it reports, what the sink had taken before the first vsync and what it
-- has now, and what the screens show
pub record RunOf (B : Type 0) : Type 0 where
  pub scene : SceneValue
  pub last : Sitting B
  pub timelines : List ℕ
  pub before : Option (List ℕ)
  pub now : Option (List ℕ)
  pub screens : List OutputScreen

module _ {B : Type 0} where
  abbrev pub returned_actor : ReturnedActor B → Actor B
  returned_actor returned = returned.actor

  abbrev pub returned_gates : ReturnedActor B → Gates
  returned_gates returned = returned.gates

  -- an actor came back with the gates that it has passed
  abbrev pub HasPassedOwn : ReturnedActor B → Type 0
  HasPassedOwn returned = HasPassed returned.actor returned.gates

  -- the locks were closed to this desk, after the first seats took all others in
  pub record AreClosedTo (locks : Locks B) (first : FirstSeats B) (desk : PlainOf B) : Type 0 where
    pub closes : Closes locks first desk
    pub ordered : IsOrdered first
    pub goes_on : (seats : Seats B) → Contains (took_of first) seats
        → GoesOn seats.by (known_of (home_of locks seats) (view_of seats)) (known_of (plain_home desk) (plain_view desk))
    pub nobody : (by : ℕ) → (Contains (first.seats.by ∷ gave_of first) by → ⊥) → HasNoEntry by (plain_view desk)

  module _ (lease : Ghosts ReadLeaseOf SeatView ReadLeaseOf Issued) (table : TableId) (run : RunOf B) (locks : Locks B) where
    abbrev pub LogFrom : Sitting B → Type 0
    LogFrom begins = Vsyncs lease table locks run.scene.period begins run.last

    -- what a log says was written, where the buffers on layers have their pictures
    pub record HasWritten (begins : Sitting B) (log : LogFrom begins) : Type 0 where
      pub written : (pictures : ℕ → Picture) → AreFound pictures (showings_of lease table locks run.scene.period log)
          → Writes run.before run.now (records_shown pictures (plan_of run.scene) run.timelines (showings_of lease table locks run.scene.period log))
          × AreShown pictures run.screens

    -- All came back, at these moments, with the gates that each has passed; the compositor came to where it is by vsyncs, which are written; and with whatever desk the locks are
    -- closed to the run is joined.
    pub record HasRun (pictures : List Picture) (all_returned : AllReturned B) : Type 0 where
      pub pictured : pictures ≡ run.scene.pictures
      pub few : run.last.number ≤ 2147483648
      pub ends : List (Moment B)
      pub actors : map actor_at ends ≡ map returned_actor all_returned.returned.items
      pub gates : AllByRecursion HasPassedOwn all_returned.returned.items
      pub joins : (desk : PlainOf B) → AreClosedTo locks all_returned.first desk
          → Joins lease run.scene table run.scene.period (most_layers run.scene.version) locks run.last ends desk
      pub shows : (desk : PlainOf B) (closed : AreClosedTo locks all_returned.first desk) → HasWritten (joins desk closed).begins (joins desk closed).log

    -- The actors are together again, over the desk of one thread, each with the gates that it has passed.
    pub record IsTogether (joined : Joined B) : Type 0 where
      pub few : run.last.number ≤ 2147483648
      pub ends : List (Moment B)
      pub desk : PlainOf B
      pub is : IsJoined lease run.scene table run.scene.period (most_layers run.scene.version) locks run.last ends desk
      pub shows : HasWritten is.joins.begins is.joins.log
      pub actor_set : joined.actor_set ≡ actor_set_joined run.scene ends desk
      pub gates : HavePassed joined.actor_set.actors joined.gates.items

  -- the actors of a run are together again so, whichever run they came back from
  abbrev pub BringsTogether : {E : Type 0} → Ghosts ReadLeaseOf SeatView ReadLeaseOf Issued → TableId → Locks B → List Picture → AllReturned B
      → Result (Joined B) E → Type 0
  BringsTogether lease table locks pictures all_returned result =
      (run : RunOf B) → HasRun lease table run locks pictures all_returned → IfOk result (IsTogether lease table run locks)
