-- A run in threads with its compositor: how it starts, and what comes of it.
use Rattle.std.specs.Prelude.{◌≡◌, ℕ, ◌≤◌, Bool, List, [], ◌∷◌, Option, None, Result, IfOk}
use Rattle.atomic_table.specs.Seated.{TableId}
use Rattle.sf_io.specs.Causes.{Rose}
use Rattle.sf_live_compositor.specs.sf_record.declared.encode.RunFault.{RunFault}
use Rattle.sf_live_compositor.specs.sf_record.declared.encode.RunFault.TheVariants.{WriteFault}
use Rattle.sf_live_compositor.specs.sf_surface.Tokens.{Issued, ReadLeaseOf}
use Rattle.sf_turns.specs.Views.{SeatView}
use Rattle.sf_turns.specs.declared.naming.TableName.{Ghosts as Naming}
use Rattle.sf_live_compositor.specs.sf_txn.declared.lease.Lease.{Ghosts}
use Rattle.sf_live_compositor.specs.sf_commit.Handlers.{new_handler}
use Rattle.sf_script_scene.specs.Limits.{most_layers}
use Rattle.sf_script_scene.specs.Scene.{SceneValue}
use Rattle.sf_live_compositor.specs.law_played.Frames.{plan_of}
use Rattle.sf_live_compositor.specs.law_played.Played.{opening}
use Rattle.sf_live_compositor.specs.sf_play_write.Showing.{IsOfScene}
use Rattle.sf_live_compositor.specs.sf_play_write.Writing.{Writes}
use Rattle.sf_live_compositor.specs.sf_live_seats.Seats.{tells_of}
use Rattle.sf_live_compositor.specs.sf_live_seats.declared.locks.Locks.{Locks}
use Rattle.sf_live_compositor.specs.sf_live_seats.declared.seats.Seats.{Seats}
use Rattle.sf_live_compositor.specs.declared.compositor.Compositor.{Compositor}
use Rattle.sf_live_compositor.specs.Keeping.{IsSame}
use Rattle.sf_live_compositor.specs.Sitting.{CutVsyncs, IsSet}
use Rattle.sf_live.specs.declared.opening.Opened.{Opened}
use Rattle.sf_live.specs.Openings.{IsOpen}
use Rattle.sf_live.specs.Runs.{LiveEnded}
use Rattle.sf_live.specs.declared.scene.Setup.{Setup}
use Rattle.sf_live.specs.declared.threads.Joined.{Joined}
use Rattle.sf_live.specs.inner.Threads.{IsTogether, RunOf}

-- A scene is opened, with what its run goes by: what its vsyncs show, its period, its order, and a handler for its display; and the record that
-- begins its run is written.
pub record MayRun {B : Type 0} (table : TableId) (scene : SceneValue) (start now : Option (List ℕ)) (setup : Setup B) (opened : Opened B) : Type 0 where
  pub opens : IsOpen scene table opened
  pub handler_is : setup.handler ≡ new_handler scene.width scene.height (most_layers scene.version)
  pub asked : IsOfScene scene setup.shows
  pub same_period : setup.period ≡ scene.period
  pub same_order : setup.order ≡ scene.order
  pub begun : Writes start now (opening scene ∷ [])

-- how a run ended that may be run; the counts are those of the sink's faults
abbrev pub EndsOpened : {A B : Type 0} → TableId → Setup B → Opened B → Result A RunFault → Option (List ℕ) → Option (List ℕ) → ℕ → ℕ → Type 0
EndsOpened table setup opened result old new before after =
    (scene : SceneValue) (start : Option (List ℕ)) → MayRun table scene start old setup opened
    → LiveEnded (tells_of opened.locks) scene result start new before after

-- how a run ended whose first record was written before; the counts are those of the sink's faults
abbrev pub EndsBegun : {A : Type 0} → Bool → SceneValue → Result A RunFault → Option (List ℕ) → Option (List ℕ) → ℕ → ℕ → Type 0
EndsBegun tells scene result old new before after =
    (start : Option (List ℕ)) → Writes start old (opening scene ∷ []) → LiveEnded tells scene result start new before after

module _ {K B : Type 0} {naming : Naming B} where
  -- a compositor of a scene before its first vsync: nothing was sent to it, and it has shown nothing
  pub record Starts (scene : SceneValue) (c : Compositor K B naming) : Type 0 where
    pub handler : c.decider.handler ≡ new_handler scene.width scene.height (most_layers scene.version)
    pub none_made : c.vsyncs ≡ 0
    pub none_due : c.due ≡ None
    pub fine : c.fault ≡ None
    pub planned : c.shows.plan ≡ plan_of scene
    pub screens : c.screens ≡ []
    pub period : c.period ≡ scene.period
    pub set : IsSet c.period c.shows.plan c.shows.timelines.items

  module _ (taken : K → Option (List ℕ)) (faults : K → ℕ) where
    -- what is said of a run from this compositor to that one, which came to these seats
    abbrev pub run_by : SceneValue → Seats B → Compositor K B naming → Compositor K B naming → RunOf B
    run_by scene seats start c = record {
      scene = scene;
      last = record { handler = c.decider.handler; seats = seats; number = c.vsyncs };
      timelines = c.shows.timelines.items;
      before = taken start.sink.now;
      now = taken c.sink.now;
      screens = c.screens;
    }

    -- The run came to its joins.
    pub record CameTogether (lease : Ghosts ReadLeaseOf SeatView ReadLeaseOf Issued) (table : TableId) (scene : SceneValue) (locks : Locks B) (start c : Compositor K B naming)
        (joined : Joined B) : Type 0 where
      pub same : IsSame start c
      pub seats : Seats B
      pub together : IsTogether lease table (run_by scene seats start c) locks joined
      pub faults_rise : faults start.sink.now ≤ faults c.sink.now

    -- It came to no end: a prefix was written of what the vsyncs show; and where the sink is why, its count of faults rose.
    pub record WasCut (lease : Ghosts ReadLeaseOf SeatView ReadLeaseOf Issued) (table : TableId) (start c : Compositor K B naming) (why : RunFault) : Type 0 where
      pub same : IsSame start c
      pub cut : CutVsyncs B lease table start.period start.shows.plan start.decider.handler.tree.most start.shows.timelines.items (taken start.sink.now) (taken c.sink.now)
      pub faults_rise : faults start.sink.now ≤ faults c.sink.now
      pub failed : why ≡ WriteFault → Rose (faults start.sink.now) (faults c.sink.now)

    -- what came of the threads of a scene that is opened, with a compositor that starts: its actors are together
    abbrev pub ComesTogether : Ghosts ReadLeaseOf SeatView ReadLeaseOf Issued → TableId → Opened B → Compositor K B naming → Compositor K B naming
        → Result (Joined B) RunFault → Type 0
    ComesTogether lease table opened start c joined =
        (scene : SceneValue) → IsOpen scene table opened → Starts scene start → IfOk joined (CameTogether lease table scene opened.locks start c)
