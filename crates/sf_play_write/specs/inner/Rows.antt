-- What is written of the actions of a play.
use Rattle.std.specs.Prelude.{◌≡◌, ℕ, ◌<◌, List, [], ◌∷◌, length, Option, None, Some, slice_get, Result}
use Rattle.atomic_table.specs.Seated.{TableId}
use Rattle.sf_output_screen.specs.sf_picture.declared.picture.Picture.{Picture}
use Rattle.sf_play.specs.sf_script_scene.Scene.{SceneValue}
use Rattle.sf_play.specs.sf_actor.Scripts.{picture_at}
use Rattle.sf_play.specs.sf_actor.declared.tried.Reply.{Reply}
use Rattle.sf_play.specs.sf_actor_steps.declared.actor.Actor.{Actor}
use Rattle.sf_play.specs.sf_record.Events.{events_records}
use Rattle.sf_play.specs.sf_record.declared.encode.RunFault.{RunFault}
use Rattle.sf_play.specs.sf_record.declared.record.Record.{Record}
use Rattle.sf_play.specs.sf_record.declared.record.Record.TheVariants as rec
use Rattle.sf_play.specs.law_played.Played.{opening}
use Rattle.sf_play.specs.law_played.Replies.{reply_shown}
use Rattle.sf_output_screen.specs.ScreenLists.{AreShown}
use Rattle.sf_output_screen.specs.declared.screens.OutputScreen.{OutputScreen}
use Rattle.sf_play.specs.Going.{EndsPlay, TellsStage}
use Rattle.sf_play.specs.Players.{PlayOf, PlayerOf, SoFar}
use Rattle.sf_play.specs.Standing.{Begins, StandsAlong}
use Rattle.sf_play.specs.declared.action.Action.{Action}
use Rattle.sf_play.specs.declared.action.Action.TheVariants as action
use Rattle.sf_play_write.specs.declared.shows.Shows.{Shows}
use Rattle.sf_play_write.specs.Showing.{IsOfScene, Written}
use Rattle.sf_play_write.specs.Vsyncs.{vsync_shown}
use Rattle.sf_play_write.specs.Writing.{Writes, WritesPart, WritingEnded}

-- the record of the newest reply, if there is one
abbrev pub newest_shown : List Reply → List Record
newest_shown [] = []
newest_shown (reply ∷ []) = rec.Repl (reply_shown reply) ∷ []
newest_shown (reply ∷ later) = newest_shown later

module _ {B : Type 0} where
  abbrev pub newest_of : Option (Actor B) → List Record
  newest_of None = []
  newest_of (Some actor) = newest_shown actor.replies.items

  -- the records of an action that a play comes to which shows this, after which it stands so
  abbrev pub action_shown : (ℕ → Picture) → Shows → PlayOf B → Action → List Record
  action_shown pictures shows play (action.Step place) = newest_of (slice_get play.actor_set.actors place)
  action_shown pictures shows play (action.Vsync report) = vsync_shown pictures shows.plan shows.timelines.items report play.handler.tree.layers
  action_shown pictures shows play other = []

  -- an action can be shown: its actor is there, and its vsync left what is to be shown
  abbrev pub MayShowAction : SceneValue → Action → PlayerOf B → Type 0
  MayShowAction scene (action.Step place) player = place < length player.play.actor_set.actors
  MayShowAction scene (action.Vsync report) player = TellsStage scene player.play
  MayShowAction scene other player = Unit {0}

  -- what was written of an action that a player came to, where it can be shown: all of its records, and the screens show images still
  abbrev pub WritesAction : Shows → PlayerOf B → Action → Option (List ℕ) → Option (List ℕ) → List OutputScreen → List OutputScreen → Type 0
  WritesAction shows player came_to old new screens shown =
      (scene : SceneValue) → MayShowAction scene came_to player → AreShown (picture_at scene.pictures) screens
      → Writes old new (action_shown (picture_at scene.pictures) shows player.play came_to) × AreShown (picture_at scene.pictures) shown

  -- after a fault, a prefix of these
  abbrev pub CutsAction : Shows → PlayerOf B → Action → Option (List ℕ) → Option (List ℕ) → List OutputScreen → Type 0
  CutsAction shows player came_to old new screens =
      (scene : SceneValue) → MayShowAction scene came_to player → AreShown (picture_at scene.pictures) screens
      → WritesPart old new (action_shown (picture_at scene.pictures) shows player.play came_to)

  -- how the writing of an action ended, from one sink and its screens to the other
  abbrev pub ActionEnded : {S A : Type 0} → (S → Option (List ℕ)) → (S → ℕ) → Shows → PlayerOf B → Action → S × List OutputScreen → S × List OutputScreen
      → Result A RunFault → Type 0
  ActionEnded taken faults shows player came_to old new result =
      WritingEnded result (faults old.0) (faults new.0) (λ _. WritesAction shows player came_to (taken old.0) (taken new.0) old.1 new.1)
      (CutsAction shows player came_to (taken old.0) (taken new.0) old.1)

  -- What a play has shown so far is written behind what was there: the player stands along with the play of the scene, and each
  -- screen has its last frame.
  pub record IsWriting (table : TableId) (scene : SceneValue) (shows : Shows) (start : Option (List ℕ)) (now : Written B) : Type 0 where
    pub so : SoFar B
    pub stands : StandsAlong table scene so now.player
    pub asked : IsOfScene scene shows
    pub written : Writes start now.taken (opening scene ∷ events_records so.events)
    pub shown : AreShown (picture_at scene.pictures) now.screens

  -- the same at the end of the play, of whose records only the last ones are to come
  pub record HasWritten (table : TableId) (scene : SceneValue) (start now : Option (List ℕ)) (player : PlayerOf B) : Type 0 where
    pub so : SoFar B
    pub stands : StandsAlong table scene so player
    pub written : Writes start now (opening scene ∷ events_records so.events)
    pub ends : EndsPlay scene so player

  -- a play that is to begin, with what it shows and its first record
  pub record IsReady (table : TableId) (scene : SceneValue) (shows : Shows) (first : Record) (player : PlayerOf B) : Type 0 where
    pub begins : Begins table scene player
    pub asked : IsOfScene scene shows
    pub opens : first ≡ opening scene
