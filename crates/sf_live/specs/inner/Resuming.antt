-- What a run that goes on by rounds begins with.
use Rattle.std.specs.Prelude.{◌≡◌, ℕ, List, [], ◌∷◌, Option}
use Rattle.atomic_table.specs.Seated.{TableId}
use Rattle.sf_live_compositor.specs.sf_surface.Tokens.{Issued, ReadLeaseOf}
use Rattle.sf_turns.specs.Views.{SeatView}
use Rattle.sf_live_compositor.specs.sf_txn.declared.lease.Lease.{Ghosts}
use Rattle.sf_live_compositor.specs.sf_live_seats.declared.locks.Locks.{Locks}
use Rattle.sf_live_compositor.specs.sf_commit.Handlers.{HandlerOf}
use Rattle.sf_script_scene.specs.declared.declarations.Pick.{Pick}
use Rattle.sf_live_compositor.specs.sf_output_plan.declared.plan.Plan.{Plan}
use Rattle.sf_live_compositor.specs.law_played.Frames.{plan_of}
use Rattle.sf_live_compositor.specs.law_played.Played.{opening}
use Rattle.sf_live_compositor.specs.law_played.Vsyncs.{rising_timelines}
use Rattle.sf_live_compositor.specs.sf_output_screen.declared.screens.OutputScreen.{OutputScreen}
use Rattle.sf_live_compositor.specs.sf_play_write.Writing.{Writes}
use Rattle.sf_live_compositor.specs.sf_play.Players.{PlayerOf}
use Rattle.sf_live.specs.inner.Rounds.{HasShown}
use Rattle.sf_live.specs.declared.threads.Joined.{Joined}
use Rattle.sf_live.specs.inner.Threads.{IsTogether, RunOf}

-- the period and the order are the scene's, the compositor is as it came to the joins, and the record that begins a run was written before the
-- first vsync
pub record GoesFrom {B : Type 0} (run : RunOf B) (start : Option (List ℕ)) (period : ℕ) (order : List Pick) (handler : HandlerOf ReadLeaseOf) (vsyncs : ℕ) : Type 0 where
  pub same_period : period ≡ run.scene.period
  pub same_order : order ≡ run.scene.order
  pub same_handler : handler ≡ run.last.handler
  pub same_vsyncs : vsyncs ≡ run.last.number
  pub rising : run.timelines ≡ rising_timelines run.scene
  pub begun : Writes start run.before (opening run.scene ∷ [])

-- its actors are together again, and a player goes on with it so
abbrev pub GoesOnFrom : {B : Type 0} → Ghosts ReadLeaseOf SeatView ReadLeaseOf Issued → TableId → RunOf B → Locks B → Option (List ℕ) → Joined B → ℕ → List Pick
    → HandlerOf ReadLeaseOf → ℕ → Type 0
GoesOnFrom lease table run locks start joined period order handler vsyncs =
    IsTogether lease table run locks joined × GoesFrom run start period order handler vsyncs

-- there is a run that a player goes on with so
abbrev pub MayGoOn : {B : Type 0} → Ghosts ReadLeaseOf SeatView ReadLeaseOf Issued → TableId → Joined B → ℕ → List Pick → HandlerOf ReadLeaseOf → ℕ
    → Type 0
MayGoOn {B} lease table joined period order handler vsyncs =
    (run : RunOf B) × (locks : Locks B) × (start : Option (List ℕ)) × GoesOnFrom lease table run locks start joined period order handler vsyncs

-- what a player has shown that goes on with a run are its vsyncs
abbrev pub HasShownRun : {B : Type 0} → TableId → RunOf B → Option (List ℕ) → PlayerOf B → Type 0
HasShownRun table run start player = HasShown table run.scene (plan_of run.scene) run.timelines start run.now run.screens player

-- so it has of whichever run it goes on with
abbrev pub ShowsJoined : {B : Type 0} → Ghosts ReadLeaseOf SeatView ReadLeaseOf Issued → TableId → Joined B → ℕ → List Pick
    → HandlerOf ReadLeaseOf → ℕ → PlayerOf B → Type 0
ShowsJoined {B} lease table joined period order handler vsyncs player =
    (run : RunOf B) (locks : Locks B) (start : Option (List ℕ)) → GoesOnFrom lease table run locks start joined period order handler vsyncs
    → HasShownRun table run start player

-- the plan is the scene's, and the timelines, the sink and the screens are as they came to the joins
pub record HasCome {B : Type 0} (run : RunOf B) (timelines : List ℕ) (plan : Plan) (now : Option (List ℕ)) (screens : List OutputScreen) : Type 0 where
  pub planned : plan ≡ plan_of run.scene
  pub same_timelines : timelines ≡ run.timelines
  pub same_sink : now ≡ run.now
  pub same_screens : screens ≡ run.screens
