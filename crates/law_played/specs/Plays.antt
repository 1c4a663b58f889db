-- A play on one thread: the picks of the order, then rounds in which each actor and then a vsync makes a transition, up to the first
-- round in which no step is done, nothing is committed and nothing waits for a time.
use Rattle.std.specs.Prelude.{◌≡◌, ℕ, ◌*◌, ◌==◌, Bool, true, false, not, ◌&&◌, zero, suc}
use Rattle.std.specs.Prelude.{List, [], ◌∷◌, ◌++◌, length, map, replicate, Option, Some, None}
use Rattle.std.specs.List.{flat_map, list_all, list_any}
use Rattle.sf_commit.specs.sf_ready.declared.hold.Hold.{Hold}
use Rattle.sf_commit.specs.Rounds.{held}
use Rattle.sf_script_scene.specs.Scene.{SceneValue}
use Rattle.sf_script_scene.specs.declared.declarations.Pick.{Pick}
use Rattle.sf_script_scene.specs.declared.step.ActorScript.{ActorScript}
use Rattle.sf_record.specs.declared.event.Event.{Event}
use Rattle.law_played.specs.Commits.{is_written}
use Rattle.law_played.specs.Progress.{is_time}
use Rattle.law_played.specs.Runs.{actor_number, final_values, rising_actors, written_in}
use Rattle.law_played.specs.RunStates.{Transition, VsyncTransition, RunState, actor_transition, first_state, round_now}

-- the transition of a pick: a vsync for 0, else the actor of this number
abbrev pub TakesTransition : SceneValue → ℕ → RunState → Transition → Type 0
TakesTransition scene zero state transition = VsyncTransition scene state transition
TakesTransition scene (suc n) state transition = transition ≡ actor_transition scene (suc n) state

-- how far a play has come: what was shown, the state, the picks that are left of the order or of a round, and the state before
-- the round, if one has begun
pub record Playing : Type 0 where
  pub events : List Event
  pub state : RunState
  pub left : List ℕ
  pub before : Option RunState

-- a pick of the order, as often as it says
abbrev pub picks_of : Pick → List ℕ
picks_of pick = replicate pick.times pick.actor

-- a play before its first transition: nothing was shown, and the order is to be done
abbrev pub first_playing : SceneValue → Playing
first_playing scene = record { events = []; state = first_state; left = flat_map picks_of scene.order; before = None }

-- a round: each actor by rising number, and then a vsync
abbrev pub round_picks : SceneValue → List ℕ
round_picks scene = map actor_number (rising_actors scene) ++ 0 ∷ []

-- something is held until its time after the last vsync
abbrev pub waits_for_time : SceneValue → RunState → Bool
waits_for_time scene state =
    list_any (λ (h : ℕ × Hold). is_time h.1)
    (held (is_written (written_in scene state.run)) (final_values scene state.run) (state.vsyncs * scene.period) (round_now scene state))

-- no step was done since, nothing was committed, and nothing waits for a time
abbrev pub is_quiet : SceneValue → RunState → RunState → Bool
is_quiet scene before now =
    list_all (λ (script : ActorScript). length (now.run.trace script.number) == length (before.run.trace script.number)) scene.actors
    && ((length now.reports == length before.reports) && not (waits_for_time scene now))

-- a play that begins a round in this state
abbrev pub with_round : SceneValue → Playing → Playing
with_round scene playing = record playing { left = round_picks scene; before = Some playing.state }

-- a pick more
pub record TakesPick (scene : SceneValue) (playing : Playing) (pick : ℕ) (left : List ℕ) (next : Playing) : Type 0 where
  pub transition : Transition
  pub takes : TakesTransition scene pick playing.state transition
  pub is : next ≡ record playing { events = playing.events ++ transition.events; state = transition.state; left = left }

-- a play goes on by the next pick, by the first round behind the order, or by one more behind a round that was not quiet
abbrev pub GoesOnWith : SceneValue → Playing → List ℕ → Option RunState → Playing → Type 0
GoesOnWith scene playing (pick ∷ left) before next = TakesPick scene playing pick left next
GoesOnWith scene playing [] None next = next ≡ with_round scene playing
GoesOnWith scene playing [] (Some before) next = (is_quiet scene before playing.state ≡ false) × (next ≡ with_round scene playing)

-- a play goes on by its next transition
abbrev pub GoesOnTo : SceneValue → Playing → Playing → Type 0
GoesOnTo scene playing next = GoesOnWith scene playing playing.left playing.before next

-- it comes from one to another in some such steps
pub data Comes (scene : SceneValue) : Playing → Playing → Type 0 where
  stays : {playing : Playing} → Comes scene playing playing
  goes : {playing : Playing} {next : Playing} {end : Playing} → GoesOnTo scene playing next → Comes scene next end → Comes scene playing end

-- a play that has begun
abbrev pub IsBegun : SceneValue → Playing → Type 0
IsBegun scene playing = Comes scene (first_playing scene) playing

-- it is over behind a round that was quiet
pub record IsOver (scene : SceneValue) (playing : Playing) : Type 0 where
  pub none_left : playing.left ≡ []
  pub before : RunState
  pub round : playing.before ≡ Some before
  pub quiet : is_quiet scene before playing.state ≡ true

-- The play of a scene: what it shows, and the state at its end.
pub record IsPlay (scene : SceneValue) (events : List Event) (state : RunState) : Type 0 where
  pub playing : Playing
  pub begun : IsBegun scene playing
  pub over : IsOver scene playing
  pub shows : playing.events ≡ events
  pub ends : playing.state ≡ state

-- A play of a scene, with what it shows and the state at its end.
pub record ScenePlay (scene : SceneValue) : Type 0 where
  pub events : List Event
  pub state : RunState
  pub is : IsPlay scene events state
