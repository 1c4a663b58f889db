-- Where a player stands, by how far the play of its scene has come.
use Rattle.std.specs.Prelude.{◌≡◌, ℕ, ◌-◌, ◌≤◌, ◌==◌, Bool, false, not, ◌||◌, if◌then◌else◌}
use Rattle.std.specs.Prelude.{List, [], ◌∷◌, ◌++◌, drop, length, map, replicate, Some, None}
use Rattle.std.specs.List.{flat_map, list_all, list_any}
use Rattle.sf_play_report.specs.sf_calls.Histories.{IsLegal}
use Rattle.sf_play_report.specs.sf_ready.declared.hold.Hold.{Hold}
use Rattle.sf_play_report.specs.sf_commit.declared.vsync.Commit.{Commit}
use Rattle.sf_script_scene.specs.Scene.{SceneValue}
use Rattle.sf_script_scene.specs.declared.declarations.Pick.{Pick}
use Rattle.sf_script_scene.specs.declared.step.ActorScript.{ActorScript}
use Rattle.sf_play_report.specs.sf_surface.Histories.{Answers}
use Rattle.sf_play_report.specs.sf_actor.Desks.{KnowsAll, mark_among}
use Rattle.sf_play_report.specs.sf_actor.Plain.{home_of, view_of}
use Rattle.sf_play_report.specs.sf_record.declared.event.Event.{Event}
use Rattle.sf_play_report.specs.law_played.Plays.{IsBegun, IsOver, Playing, picks_of}
use Rattle.sf_play_report.specs.law_played.Progress.{is_time}
use Rattle.sf_play_report.specs.law_played.Runs.{actor_number, rising_actors}
use Rattle.sf_play_report.specs.law_played.Vsyncs.{vsyncs_in}
use Rattle.sf_play_report.specs.law_played.RunStates.{RunState}
use Rattle.sf_play_report.specs.Reports.{has_commits}
use Rattle.sf_play.specs.Players.{PlayOf, SoFar, arrived_at, run_so}
use Rattle.sf_play.specs.declared.place.Place.{Place}
use Rattle.sf_play.specs.declared.place.Place.TheVariants as at

-- the picks that are left where so many actions of the first of these are done
abbrev pub left_in : List Pick → ℕ → List ℕ
left_in [] done = []
left_in (pick ∷ later) done = replicate (pick.times - done) pick.actor ++ flat_map picks_of later

-- those of a round in which so many actors were tried
abbrev pub left_of_round : SceneValue → ℕ → List ℕ
left_of_round scene place = map actor_number (drop place (rising_actors scene)) ++ 0 ∷ []

-- no actor of the scene did a step between two states
abbrev pub none_stepped : SceneValue → RunState → RunState → Bool
none_stepped scene before now = list_all (λ (script : ActorScript). length (now.run.trace script.number) == length (before.run.trace script.number)) scene.actors

-- in a round: the picks that are left, that nothing was committed since it began, and whether a step was done since
pub record IsInRound (scene : SceneValue) (playing : Playing) (place : ℕ) (stepped : Bool) : Type 0 where
  pub before : RunState
  pub round : playing.before ≡ Some before
  pub left : playing.left ≡ left_of_round scene place
  pub reports : playing.state.reports ≡ before.reports
  pub grows : (actor : ℕ) → length (before.run.trace actor) ≤ length (playing.state.run.trace actor)
  pub did : none_stepped scene before playing.state ≡ not stepped

abbrev pub IsPlace : SceneValue → Playing → Place → Type 0
IsPlace scene playing (at.Order place done) = (playing.before ≡ None) × (playing.left ≡ left_in (drop place scene.order) done)
IsPlace scene playing (at.Round place stepped) = IsInRound scene playing place stepped
IsPlace scene playing at.End = IsOver scene playing

-- a play that has begun showed these events, and has come to this state and this place
pub record PlaysTo (scene : SceneValue) (events : List Event) (state : RunState) (place : Place) : Type 0 where
  pub playing : Playing
  pub begun : IsBegun scene playing
  pub shows : playing.events ≡ events
  pub comes : playing.state ≡ state
  pub at_place : IsPlace scene playing place

-- the place behind the vsync of a round: another round follows where a step was done, something was committed, or something
-- waits for a time
abbrev pub behind_round : Bool → List Commit → List (ℕ × Hold) → Place
behind_round stepped commits holds = if stepped || (has_commits commits || list_any (λ (h : ℕ × Hold). is_time h.1) holds) then at.Round 0 false else at.End

module _ {B : Type 0} where
  -- what a desk of one thread keeps: all is known, and the calls on its queues are legal
  pub record DeskKnows (play : PlayOf B) : Type 0 where
    pub knows : KnowsAll (view_of play.actor_set.desk)
    pub legal : (queue : ℕ) → IsLegal (Answers (mark_among (home_of play.actor_set.desk).marks queue)) ((view_of play.actor_set.desk).calls queue)

  -- the state that a player has come to
  abbrev pub state_so : SoFar B → PlayOf B → RunState
  state_so so play = record { run = run_so so play; arrivals = arrived_at play; reports = vsyncs_in so.events; vsyncs = play.vsyncs }

  abbrev pub PlaysSo : SceneValue → SoFar B → PlayOf B → Place → Type 0
  PlaysSo scene so play place = PlaysTo scene so.events (state_so so play) place
