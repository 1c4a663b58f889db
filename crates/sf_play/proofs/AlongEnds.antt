-- A player begins where the play of its scene does, and what it has shown at its end is that play.
use Rattle.std.proofs.Common.{◌≡◌, ℕ, ◌==◌, Bool, true, false, List, [], ◌∷◌, drop, map, refl, sym, ap, ◌∙◌, subst, inl, inr}
use Rattle.std.specs.Prelude.{if◌then◌else◌}
use Rattle.std.proofs.lemmas.Bool.{cases_Bool}
use Rattle.atomic_table.specs.Seated.{TableId}
use Rattle.sf_play_report.specs.sf_surface.Histories.{told}
use Rattle.sf_play_report.specs.sf_surface.Objects.{ObjectOf}
use Rattle.sf_play_report.specs.sf_token.Arrivals.{sent}
use Rattle.sf_play_report.specs.sf_turns.Views.{SeatView}
use Rattle.sf_script_scene.specs.Scene.{SceneValue}
use Rattle.sf_script_scene.specs.declared.declarations.QueueDecl.{QueueDecl}
use Rattle.sf_script_scene.specs.declared.step.ActorScript.{ActorScript}
use Rattle.sf_play_report.specs.sf_actor.Desks.{mark_among}
use Rattle.sf_play_report.specs.sf_actor.Known.{plain_arrival}
use Rattle.sf_play_report.specs.sf_actor.Plain.{calls_among, home_of, is_queue}
use Rattle.sf_play_report.specs.sf_actor.Tries.{dequeues_in}
use Rattle.law_rights.specs.sf_actor_set.ActorSets.{Opens}
use Rattle.law_rights.specs.sf_actor_set.Opening.{new_actors, new_queue}
use Rattle.sf_play_report.specs.law_played.Actors.{trace_among}
use Rattle.sf_play_report.specs.law_played.Plays.{IsPlay}
use Rattle.sf_play_report.specs.law_played.Vsyncs.{vsyncs_in}
use Rattle.sf_play_report.specs.law_played.RunStates.{RunState, first_state}
use Rattle.sf_play.proofs.AlongLemmas.{plays_first}
use Rattle.sf_play.specs.Alongs.{PlaysSo, PlaysTo, state_so}
use Rattle.sf_play.specs.Players.{PlayOf, SoFar}
use Rattle.sf_play.specs.declared.place.Place.TheVariants as at

none_traced : (B : Type 0) (scripts : List ActorScript) (stock : List ℕ) (actor : ℕ) → trace_among (new_actors {B = B} scripts stock) actor ≡ []
none_traced B [] stock actor = refl
none_traced B (script ∷ scripts) stock actor = by_number (script.number == actor) (none_traced B scripts (drop (dequeues_in script.steps) stock) actor)
  where
    by_number : (b : Bool) → trace_among (new_actors {B = B} scripts (drop (dequeues_in script.steps) stock)) actor ≡ []
        → (if b then [] else trace_among (new_actors {B = B} scripts (drop (dequeues_in script.steps) stock)) actor) ≡ []
    by_number true rest = refl
    by_number false rest = rest

none_among : (B : Type 0) (queues : List QueueDecl) (queue : ℕ) → calls_among (map (new_queue {B = B}) queues) queue ≡ []
none_among B [] queue = refl
none_among B (q ∷ queues) queue = elim (cases_Bool (is_queue queue (new_queue {B = B} q))) [
  | inl met ↦ rw met refl
  | inr unmet ↦ rw unmet (none_among B queues queue)
]

module _ {B : Type 0} where
  -- nothing happened yet
  module _ (table : TableId) (scene : SceneValue) (seat : SeatView) (stock : List ℕ) (play : PlayOf B) (opens : Opens table scene.queues scene.pictures scene.actors seat stock play.actor_set) (none : play.vsyncs ≡ 0) where
    abbrev at_first : SoFar B
    at_first = record { actors = new_actors opens.declared stock; events = [] }

    first_now : state_so at_first play ≡ first_state
    unfolding told vsyncs_in
    first_now = λ i. record {
      run = record {
        trace = λ actor. none_traced B opens.declared stock actor i;
        calls = λ queue. told (mark_among (home_of play.actor_set.desk).marks queue)
            ((ap (λ (objects : List (ObjectOf B)). calls_among objects queue) opens.queues_opened.opened ∙ none_among B opens.queues_opened.declared queue) i);
      };
      arrivals = map plain_arrival (ap sent opens.none_arrived i);
      reports = [];
      vsyncs = none i;
    }

    pub begins_along : PlaysSo scene at_first play (at.Order 0 0)
    begins_along = subst (λ (w : RunState). PlaysTo scene [] w (at.Order 0 0)) (sym first_now) (plays_first scene)

  -- what was shown at the end is the play of the scene
  pub ends_play : (scene : SceneValue) (so : SoFar B) (play : PlayOf B) → PlaysSo scene so play at.End → IsPlay scene so.events (state_so so play)
  ends_play scene so play plays = record { playing = plays.playing; begun = plays.begun; over = plays.at_place; shows = plays.shows; ends = plays.comes }
