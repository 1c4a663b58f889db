-- What is written in the rounds behind a run in threads: the vsyncs as they come, and at the end the replies to all steps and the
-- closing records.
use Rattle.std.specs.Prelude.{◌≡◌, ℕ, Bool, true, false, List, [], ◌∷◌, map, Option, None, Some, slice_get, slice_set, Result}
use Rattle.std.specs.List.{flat_map}
use Rattle.atomic_table.specs.Seated.{TableId}
use Rattle.law_live_order.specs.law_rounds.Rounds.{IsInOrder}
use Rattle.sf_picture.specs.declared.picture.Picture.{Picture}
use Rattle.sf_script_scene.specs.Scene.{SceneValue}
use Rattle.sf_live_compositor.specs.sf_actor.Scripts.{picture_at}
use Rattle.sf_live_compositor.specs.sf_actor_steps.declared.actor.Actor.{Actor}
use Rattle.sf_live_compositor.specs.sf_live_threads.Gates.{HasPassed, IsReady}
use Rattle.sf_live_compositor.specs.sf_live_threads.declared.gates.Gates.{Gates}
use Rattle.sf_live_compositor.specs.sf_record.Events.{events_records}
use Rattle.sf_live_compositor.specs.sf_record.declared.event.Event.{Event}
use Rattle.sf_live_compositor.specs.sf_record.declared.event.Event.TheVariants as event
use Rattle.sf_live_compositor.specs.sf_record.declared.encode.RunFault.{RunFault}
use Rattle.sf_live_compositor.specs.sf_record.declared.record.Record.{Record}
use Rattle.sf_live_compositor.specs.sf_record.declared.record.Record.TheVariants as rec
use Rattle.sf_live_compositor.specs.sf_output_plan.declared.plan.Plan.{Plan}
use Rattle.sf_live_compositor.specs.law_played.Frames.{plan_of}
use Rattle.sf_live_compositor.specs.law_played.Played.{opening}
use Rattle.sf_live_compositor.specs.law_played.Replies.{reply_shown}
use Rattle.sf_live_compositor.specs.law_played.Vsyncs.{rising_timelines, vsyncs_in}
use Rattle.sf_live_compositor.specs.sf_output_screen.ScreenLists.{AreShown}
use Rattle.sf_live_compositor.specs.sf_output_screen.declared.screens.OutputScreen.{OutputScreen}
use Rattle.sf_live_compositor.specs.sf_play.Going.{EndsRun, TellsStage}
use Rattle.sf_live_compositor.specs.sf_play.Players.{PlayerOf, SoFar, home_in}
use Rattle.sf_live_compositor.specs.sf_play.Standing.{StandsInRun}
use Rattle.sf_live_compositor.specs.sf_play.declared.action.Action.{Action}
use Rattle.sf_live_compositor.specs.sf_play.declared.action.Action.TheVariants as action
use Rattle.sf_live_compositor.specs.sf_play_write.Vsyncs.{vsync_shown}
use Rattle.sf_live_compositor.specs.sf_play_write.declared.shows.Shows.{Shows}
use Rattle.sf_live_compositor.specs.sf_play_write.Writing.{Writes, WritesPart, WritingEnded}
use Rattle.sf_live.specs.Runs.{CutLive, LiveEnded}

-- the vsyncs among events, alone
abbrev pub vsyncs_alone : List Event → List Event
vsyncs_alone events = map event.Vsync (vsyncs_in events)

-- how far a run is written: what the sink took and the count of its faults, what the screens show, and where the player stands
pub record RunAt (B : Type 0) : Type 0 where
  pub taken : Option (List ℕ)
  pub faults : ℕ
  pub screens : List OutputScreen
  pub player : PlayerOf B

abbrev pub run_at : {K B : Type 0} → (K → Option (List ℕ)) → (K → ℕ) → K → List OutputScreen → PlayerOf B → RunAt B
run_at taken faults sink screens player = record { taken = taken sink; faults = faults sink; screens = screens; player = player }

module _ {B : Type 0} where
  -- the records of an action as it is done, which left the player so: those of a vsync; the reply to a step is written at the end
  abbrev pub action_written : (ℕ → Picture) → Plan → List ℕ → PlayerOf B → Action → List Record
  action_written pictures plan timelines player (action.Vsync report) = vsync_shown pictures plan timelines report player.play.handler.tree.layers
  action_written pictures plan timelines player other = []

  -- an action can be written by a plan, which is the scene's: what its vsync shows can be composed
  abbrev pub MayWriteAction : SceneValue → Plan → Action → PlayerOf B → Type 0
  MayWriteAction scene plan (action.Vsync report) player = (plan ≡ plan_of scene) × TellsStage scene player.play
  MayWriteAction scene plan other player = Unit {0}

  -- what was written of an action that the player came to, where it can be written: all of its records, and the screens show images still
  abbrev pub WritesAction : Shows → Action → RunAt B → RunAt B → Type 0
  WritesAction shows came_to before after =
      (scene : SceneValue) → MayWriteAction scene shows.plan came_to before.player → AreShown (picture_at scene.pictures) before.screens
      → Writes before.taken after.taken (action_written (picture_at scene.pictures) shows.plan shows.timelines.items before.player came_to)
      × AreShown (picture_at scene.pictures) after.screens

  -- after a fault, a prefix of these
  abbrev pub CutsAction : Shows → Action → RunAt B → RunAt B → Type 0
  CutsAction shows came_to before after =
      (scene : SceneValue) → MayWriteAction scene shows.plan came_to before.player → AreShown (picture_at scene.pictures) before.screens
      → WritesPart before.taken after.taken (action_written (picture_at scene.pictures) shows.plan shows.timelines.items before.player came_to)

  -- how the writing of an action ended
  abbrev pub ActionEnded : {A : Type 0} → Shows → Action → RunAt B → RunAt B → Result A RunFault → Type 0
  ActionEnded shows came_to before after result =
      WritingEnded result before.faults after.faults (λ _. WritesAction shows came_to before after) (CutsAction shows came_to before after)

  -- The vsyncs of a run so far are written behind what was there before, and the screens have the last frames; the player stands in
  -- the run, and what happened in it is in one order.
  pub record HasShown (table : TableId) (scene : SceneValue) (plan : Plan) (timelines : List ℕ) (start now : Option (List ℕ)) (screens : List OutputScreen)
      (player : PlayerOf B) : Type 0 where
    pub so : SoFar B
    pub stands : StandsInRun table scene so player
    pub planned : plan ≡ plan_of scene
    pub rising : timelines ≡ rising_timelines scene
    pub written : Writes start now (opening scene ∷ events_records (vsyncs_alone so.events))
    pub shown : AreShown (picture_at scene.pictures) screens
    pub in_order : IsInOrder (home_in player.play).tells scene so player.play

  -- the same at the end of the rounds, where only the replies and the closing records are to come
  pub record HasShownAll (table : TableId) (scene : SceneValue) (start now : Option (List ℕ)) (player : PlayerOf B) : Type 0 where
    pub so : SoFar B
    pub stands : StandsInRun table scene so player
    pub written : Writes start now (opening scene ∷ events_records (vsyncs_alone so.events))
    pub ends : EndsRun scene so player
    pub in_order : IsInOrder (home_in player.play).tells scene so player.play

  -- an action was written: there are more to come, or the run is at its end
  abbrev pub ShowsOn : Bool → TableId → SceneValue → Plan → List ℕ → Option (List ℕ) → Option (List ℕ) → List OutputScreen → PlayerOf B → Type 0
  ShowsOn true table scene plan timelines start now screens player = HasShown table scene plan timelines start now screens player
  ShowsOn false table scene plan timelines start now screens player = HasShownAll table scene start now player

  -- the vsyncs of a run so far are written, which shows this
  abbrev pub HasShownBy : TableId → SceneValue → Shows → Option (List ℕ) → RunAt B → Type 0
  HasShownBy table scene shows start now = HasShown table scene shows.plan shows.timelines.items start now.taken now.screens now.player

  -- so they are of some run
  abbrev pub HasShownSome : TableId → Shows → RunAt B → Type 0
  HasShownSome table shows now = (scene : SceneValue) × (start : Option (List ℕ)) × HasShownBy table scene shows start now

  -- the next action of such a run was written, too
  abbrev pub ShowsNext : TableId → Shows → RunAt B → RunAt B → Bool → Type 0
  ShowsNext table shows before after goes_on =
      (scene : SceneValue) (start : Option (List ℕ)) → HasShownBy table scene shows start before
      → ShowsOn goes_on table scene shows.plan shows.timelines.items start after.taken after.screens after.player

  -- all of its rounds were
  abbrev pub ShowsRounds : TableId → Shows → RunAt B → RunAt B → Type 0
  ShowsRounds table shows before after =
      (scene : SceneValue) (start : Option (List ℕ)) → HasShownBy table scene shows start before → HasShownAll table scene start after.taken after.player

  -- after a fault, a prefix of its records
  abbrev pub CutsRounds : TableId → Shows → RunAt B → RunAt B → Type 0
  CutsRounds table shows before after =
      (tells : Bool) (scene : SceneValue) (start : Option (List ℕ)) → HasShownBy table scene shows start before → CutLive tells scene start after.taken

  -- how the next action of such a run ended, and how all of its rounds did
  abbrev pub NextEnded : TableId → Shows → RunAt B → RunAt B → Result Bool RunFault → Type 0
  NextEnded table shows before after result =
      WritingEnded result before.faults after.faults (ShowsNext table shows before after) (CutsRounds table shows before after)

  abbrev pub RoundsEnded : {A : Type 0} → TableId → Shows → RunAt B → RunAt B → Result A RunFault → Type 0
  RoundsEnded table shows before after result =
      WritingEnded result before.faults after.faults (λ _. ShowsRounds table shows before after) (CutsRounds table shows before after)

  -- how such a run ended, after which the sink has taken this and has this count of faults
  abbrev pub EndsShown : {A : Type 0} → TableId → Shows → RunAt B → Result A RunFault → Option (List ℕ) → ℕ → Type 0
  EndsShown table shows before result now later =
      (scene : SceneValue) (start : Option (List ℕ)) → HasShownBy table scene shows start before
      → LiveEnded (home_in before.player.play).tells scene result start now before.faults later

  -- the records of the replies to the steps of an actor, and those of all actors
  abbrev pub reply_records : Actor B → List Record
  reply_records actor = map rec.Repl (map reply_shown actor.replies.items)

  abbrev pub all_reply_records : List (Actor B) → List Record
  all_reply_records actors = flat_map reply_records actors

  -- the actor at a place may try its next step: the gate was passed for it, and not for another actor's
  pub record PassesAt (place : ℕ) (actors : List (Actor B)) (old new : List Gates) : Type 0 where
    pub passed : Gates
    pub only : new ≡ slice_set old place passed
    pub ready : (actor : Actor B) (before : Gates) → slice_get actors place ≡ Some actor → slice_get old place ≡ Some before
        → HasPassed actor before → IsReady actor passed

  -- of the actor whose step is tried next, if one is
  abbrev pub PassesFor : Option ℕ → List (Actor B) → List Gates → List Gates → Type 0
  PassesFor None actors old new = new ≡ old
  PassesFor (Some place) actors old new = PassesAt place actors old new
