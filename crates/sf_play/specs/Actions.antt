-- What an action of a player does.
use Rattle.std.specs.Prelude.{◌≡◌, ℕ, zero, suc, ◌+◌, ◌==◌, nat_lt, Bool, true, false, ◌||◌, if◌then◌else◌}
use Rattle.std.specs.Prelude.{List, length, Option, Some, None, slice_get}
use Rattle.std.specs.List.{list_any, position}
use Rattle.atomic_table.specs.Seated.{TableId}
use Rattle.sf_play_report.specs.sf_ready.declared.hold.Hold.{Hold}
use Rattle.sf_play_report.specs.sf_surface.Tokens.{ReadLeaseOf}
use Rattle.sf_play_report.specs.sf_turns.Views.{SeatView}
use Rattle.sf_play_report.specs.sf_txn.declared.lease.Lease.{Ghosts}
use Rattle.sf_play_report.specs.sf_commit.declared.vsync.Commit.{Commit}
use Rattle.sf_script_scene.specs.declared.declarations.Pick.{Pick}
use Rattle.law_rights.specs.sf_actor_steps.declared.actor.Actor.{Actor}
use Rattle.sf_play_report.specs.sf_actor.declared.tried.Stepped.{Stepped}
use Rattle.sf_play_report.specs.sf_actor.declared.tried.Stepped.TheVariants as stepped
use Rattle.sf_play_report.specs.sf_actor.Scripts.{picture_at}
use Rattle.sf_play_report.specs.sf_actor.Tries.{ActorOf}
use Rattle.sf_play_report.specs.sf_actor.Plain.{home_of, view_of}
use Rattle.law_rights.specs.sf_actor_set.ActorSets.{IsSameActorSet, KeepAs, StepsAt, number_of}
use Rattle.sf_play_report.specs.law_played.Progress.{is_time}
use Rattle.sf_play.specs.Places.{settled}
use Rattle.sf_play.specs.Players.{PlayOf, PlayerOf}
use Rattle.sf_play.specs.Playing.{MakesReport}
use Rattle.sf_play.specs.declared.place.Place.{Place}
use Rattle.sf_play.specs.declared.place.Place.TheVariants as at
use Rattle.sf_play_report.specs.Reports.{has_commits}
use Rattle.sf_play_report.specs.declared.report.VsyncReport.{VsyncReport}
use Rattle.sf_play.specs.declared.action.Action.{Action}
use Rattle.sf_play.specs.declared.action.Action.TheVariants as action

-- what an action did whose actor's try came to this
abbrev pub action_by : ℕ → Stepped → Action
action_by place stepped.Done = action.Step place
action_by place other = action.Idle

abbrev pub is_step : Action → Bool
is_step (action.Step place) = true
is_step other = false

-- nothing will be done any more
abbrev pub is_end : Action → Bool
is_end action.End = true
is_end other = false

module _ {B : Type 0} where
  -- these actors keep what they keep
  abbrev pub KeepsActorSet : TableId → PlayOf B → List (ActorOf B) → Type 0
  KeepsActorSet table play ofs = KeepAs table (picture_at play.actor_set.pictures) (home_of play.actor_set.desk) (view_of play.actor_set.desk) play.actor_set.actors ofs

  -- the next step of the actor at a place was tried
  pub record TriesStep (table : TableId) (place : ℕ) (ofs : List (ActorOf B)) (old new : PlayOf B) (came_to : Action) : Type 0 where
    pub stepped : Stepped
    pub is : came_to ≡ action_by place stepped
    pub steps : StepsAt table (picture_at old.actor_set.pictures) place old.actor_set.actors ofs old.actor_set.desk new.actor_set.actors new.actor_set.desk stepped
    pub same : IsSameActorSet old.actor_set new.actor_set
    pub acts : new.actor_set.is_spent ≡ false
    pub rest : new ≡ record old { actor_set = new.actor_set }

  -- the place of the actor whose next step a pick tries: a pick of 0 is a vsync
  abbrev pub picked_place : List (Actor B) → ℕ → Option ℕ
  picked_place actors zero = None
  picked_place actors (suc n) = position (λ (actor : Actor B). number_of actor == suc n) actors

  abbrev pub place_by : List (Actor B) → Option Pick → Option ℕ
  place_by actors None = None
  place_by actors (Some pick) = picked_place actors pick.actor

  -- that of the action at a place, if it tries one
  abbrev pub tried_from : PlayOf B → Place → Option ℕ
  tried_from play (at.Order place done) = place_by play.actor_set.actors (slice_get play.order place)
  tried_from play (at.Round place stepped) = if nat_lt place (length play.actor_set.actors) then Some place else None
  tried_from play at.End = None

  -- that of the next action of a player
  abbrev pub next_tried : PlayerOf B → Option ℕ
  next_tried player = tried_from player.play (settled player.play.order player.place)

  -- the action is the try of the step that was to be tried next, if one was
  abbrev pub TriesOnlyNext : TableId → List (ActorOf B) → PlayerOf B → PlayerOf B → Action → Type 0
  TriesOnlyNext table ofs old new came_to = (place : ℕ) → next_tried old ≡ Some place → TriesStep table place ofs old.play new.play came_to

  -- an actor that did a step is the one whose step was to be tried next
  abbrev pub StepsOnlyNext : PlayerOf B → Action → Type 0
  StepsOnlyNext old came_to = (place : ℕ) → came_to ≡ action.Step place → next_tried old ≡ Some place

module _ {B : Type 0} {R C : Type 0} (lease : Ghosts ReadLeaseOf SeatView R C) (table : TableId) (ofs : List (ActorOf B)) where
  -- a vsync was made
  pub record TakesVsync (old new : PlayerOf B) (came_to : Action) : Type 0 where
    pub report : VsyncReport
    pub is : came_to ≡ action.Vsync report
    pub makes : MakesReport lease table old new report

  abbrev pub TriesIf : Option ℕ → PlayOf B → PlayOf B → Action → Type 0
  TriesIf None old new came_to = (came_to ≡ action.Idle) × (new ≡ old)
  TriesIf (Some place) old new came_to = TriesStep table place ofs old new came_to

  -- the action of a pick: a vsync for 0, else the next step of the actor of this number
  abbrev pub Picks : ℕ → PlayerOf B → PlayerOf B → Action → Type 0
  Picks zero old new came_to = TakesVsync old new came_to
  Picks (suc n) old new came_to =
      TriesIf (position (λ (actor : Actor B). number_of actor == suc n) old.play.actor_set.actors) old.play new.play came_to × (new.held ≡ old.held)

  -- a round goes on: a step was done in it, something was committed, or something is held until its time
  abbrev pub goes_on : Bool → List Commit → List (ℕ × Hold) → Bool
  goes_on stepped commits held = stepped || (has_commits commits || list_any (λ (h : ℕ × Hold). is_time h.1) held)

  -- the vsync behind the actors of a round
  pub record EndsRound (stepped : Bool) (old new : PlayerOf B) (came_to : Action) : Type 0 where
    pub vsync : TakesVsync old new came_to
    pub next : new.place ≡ (if goes_on stepped vsync.report.commits new.held then at.Round 0 false else at.End)

  pub record GoesRound (place : ℕ) (stepped : Bool) (old new : PlayerOf B) (came_to : Action) : Type 0 where
    pub tries : TriesStep table place ofs old.play new.play came_to
    pub held : new.held ≡ old.held
    pub next : new.place ≡ at.Round (place + 1) (stepped || is_step came_to)

  -- the action of a round, in which the actors before this place were tried
  abbrev pub RoundsIf : Bool → ℕ → Bool → PlayerOf B → PlayerOf B → Action → Type 0
  RoundsIf true place stepped old new came_to = GoesRound place stepped old new came_to
  RoundsIf false place stepped old new came_to = EndsRound stepped old new came_to

  abbrev pub Rounds : ℕ → Bool → PlayerOf B → PlayerOf B → Action → Type 0
  Rounds place stepped old new came_to = RoundsIf (nat_lt place (length old.play.actor_set.actors)) place stepped old new came_to

  -- an action of a pick of the order
  pub record TakesPick (place done : ℕ) (old new : PlayerOf B) (came_to : Action) : Type 0 where
    pub pick : Pick
    pub there : slice_get old.play.order place ≡ Some pick
    pub picks : Picks pick.actor old new came_to
    pub next : new.place ≡ at.Order place (done + 1)

  abbrev pub TakesActionAt : Place → PlayerOf B → PlayerOf B → Action → Type 0
  TakesActionAt (at.Order place done) old new came_to = TakesPick place done old new came_to
  TakesActionAt (at.Round place stepped) old new came_to = Rounds place stepped old new came_to
  TakesActionAt at.End old new came_to = (came_to ≡ action.End) × (new ≡ old)

  -- the next action of a player
  abbrev pub TakesAction : PlayerOf B → PlayerOf B → Action → Type 0
  TakesAction old new came_to = TakesActionAt (settled old.play.order old.place) old new came_to

-- an action that a player took, with the actors as contracts see them
pub record TakenAction (B : Type 0) {R C : Type 0} (lease : Ghosts ReadLeaseOf SeatView R C) (table : TableId) : Type 0 where
  pub ofs : List (ActorOf B)
  pub old : PlayerOf B
  pub new : PlayerOf B
  pub came_to : Action
  pub takes : TakesAction lease table ofs old new came_to
