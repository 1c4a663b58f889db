-- Where nothing has happened, nothing was entered.
use Rattle.std.proofs.Common.{◌≡◌, ℕ, ◌==◌, ◌⊎◌, true, false, List, [], ◌∷◌, refl, subst, inl, inr}
use Rattle.std.specs.Prelude.{All, Contains}
use Rattle.std.proofs.lemmas.Bool.{cases_Bool}
use Rattle.std.proofs.lemmas.List.Elements.{All-head, All-tail}
use Rattle.sf_actor_set.specs.sf_commit.Handlers.{HandlerOf}
use Rattle.sf_actor_set.specs.sf_script_scene.Scene.{SceneValue}
use Rattle.sf_actor_set.specs.sf_surface.Tokens.{ReadLeaseOf}
use Rattle.sf_actor_set.specs.sf_actor.declared.done.Done.{Done}
use Rattle.sf_actor_set.specs.sf_actor.Desks.{DeskHome, DeskView}
use Rattle.sf_actor_set.specs.sf_actor.Traces.{DoneAt, places_from, places_of}
use Rattle.sf_actor_set.specs.sf_actor.Tries.{ActorOf}
use Rattle.law_played.specs.Actors.{run_of, trace_among}
use Rattle.law_played.specs.Runs.{rising_actors, steps_by}
use Rattle.law_played.proofs.Members.{map_has}
use Rattle.law_rights.specs.InTurn.{DrawsStand}
use Rattle.law_rights.specs.Standing.{Begins, IsFresh}
use Rattle.law_rights.proofs.TurnCounts.{none_in}
use Rattle.law_rights.proofs.QueueCounts.{in_some}

none_done : (trace : List Done) (at : DoneAt) → trace ≡ [] → Contains (places_of trace) at → ⊥
unfolding places_from
none_done trace at none there = none_in at (subst (λ (t : List Done). Contains (places_of t) at) none there)

module _ {B : Type 0} where
  none_traced : (ofs : List (ActorOf B)) (number : ℕ) → All IsFresh ofs → trace_among ofs number ≡ []
  none_traced [] number fresh = refl
  none_traced (of ∷ ofs) number fresh = by_number (cases_Bool (of.script.number == number)) (none_traced ofs number (All-tail IsFresh of ofs fresh))
    where
      by_number : ((of.script.number == number) ≡ true) ⊎ ((of.script.number == number) ≡ false) → trace_among ofs number ≡ [] → trace_among (of ∷ ofs) number ≡ []
      by_number (inl met) rest = rw met ((All-head IsFresh of ofs fresh).trace)
      by_number (inr unmet) rest = rw unmet rest

  pub draws_begin : (scene : SceneValue) (buffers : ℕ) (home : DeskHome) (view : DeskView B) (ofs : List (ActorOf B)) (handler : HandlerOf ReadLeaseOf) → Begins buffers home view ofs handler → DrawsStand scene home view ofs handler
  draws_begin scene buffers home view ofs handler begins s there =
      let found = in_some (steps_by (run_of ofs home view)) (rising_actors scene) s there in
      let at = map_has (λ (at : DoneAt). record { actor = found.0.number; at = at }) (places_of (trace_among ofs found.0.number)) s found.2 in
      absurd (none_done (trace_among ofs found.0.number) at.0 (none_traced ofs found.0.number begins.fresh) at.1)
