-- Where nothing has happened, the rights of a run stand.
use Rattle.std.proofs.Common.{◌≡◌, ℕ, ◌==◌, ◌⊎◌, true, false, List, [], ◌∷◌, map, refl, inl, inr, subst}
use Rattle.std.specs.Prelude.{All, Contains}
use Rattle.std.specs.List.Sorted.{IsStrictlyIncreasing}
use Rattle.std.proofs.lemmas.Bool.{cases_Bool}
use Rattle.std.proofs.lemmas.List.Elements.{All-head, All-tail}
use Rattle.law_rights.specs.sf_commit.Handlers.{HandlerOf}
use Rattle.law_rights.specs.sf_script_scene.Scene.{SceneValue}
use Rattle.sf_slots.specs.declared.calls.Entry.{Entry}
use Rattle.law_rights.specs.sf_surface.Histories.{Made, told}
use Rattle.law_rights.specs.sf_surface.Tokens.{ReadLeaseOf}
use Rattle.law_rights.specs.sf_actor.declared.done.Done.{Done}
use Rattle.law_rights.specs.sf_actor.Desks.{DeskHome, DeskView, mark_among}
use Rattle.law_rights.specs.sf_actor.Known.{Call}
use Rattle.law_rights.specs.sf_actor.Traces.{DoneAt, places_from, places_of}
use Rattle.law_rights.specs.sf_actor.Tries.{ActorOf}
use Rattle.law_rights.specs.law_played.Actors.{number_of, run_of, trace_among}
use Rattle.law_rights.specs.law_played.Runs.{rising_actors, steps_by}
use Rattle.law_rights.specs.law_played.Turns.{calls_in}
use Rattle.law_rights.proofs.law_played_lemmas.Members.{map_has}
use Rattle.law_rights.specs.Standing.{Begins, IsFresh, state_of}
use Rattle.law_rights.proofs.TurnCounts.{none_in}
use Rattle.law_rights.proofs.MakersBeginning.{makers_begin}
use Rattle.law_rights.proofs.QueueCounts.{in_some}
use Rattle.law_rights.proofs.EmptyLedger.{begins_standing}
use Rattle.law_draws.specs.Standing.{RightsStand}

none_done : (trace : List Done) (at : DoneAt) → trace ≡ [] → Contains (places_of trace) at → ⊥
unfolding places_from
none_done trace at none there = none_in at (subst (λ (t : List Done). Contains (places_of t) at) none there)

module _ {B : Type 0} where
  none_traced : (ofs : List (ActorOf B)) (number : ℕ) → All IsFresh ofs → trace_among ofs number ≡ []
  none_traced [] number fresh = refl
  none_traced (of ∷ ofs) number fresh = by_number (cases_Bool (of.script.number == number)) (none_traced ofs number (All-tail IsFresh of ofs fresh))
    where
      by_number : ((of.script.number == number) ≡ true) ⊎ ((of.script.number == number) ≡ false) → trace_among ofs number ≡ [] → trace_among (of ∷ ofs) number ≡ []
      by_number (inl met) rest = rw met ((All-head IsFresh of ofs fresh).trace)
      by_number (inr unmet) rest = rw unmet rest

  none_told : (home : DeskHome) (calls : List (Made B)) (queue : ℕ) (entry : Entry) → calls ≡ [] → Contains (told (mark_among home.marks queue) calls) entry → ⊥
  unfolding told
  none_told home calls queue entry none there = none_in entry (subst (λ (cs : List (Made B)). Contains (told (mark_among home.marks queue) cs) entry) none there)

  pub rights_begin : (scene : SceneValue) (calls : ℕ → ℕ → List (Call B)) (buffers : ℕ) (home : DeskHome) (view : DeskView B) (ofs : List (ActorOf B)) (handler : HandlerOf ReadLeaseOf) → IsStrictlyIncreasing (map number_of ofs)
      → Begins buffers home view ofs handler → RightsStand scene calls (state_of home view ofs handler)
  rights_begin scene calls buffers home view ofs handler apart begins = record {
    apart = apart;
    of_steps = λ of among queue entry there caller tells. absurd (none_told home (view.calls queue) queue entry (begins.calls queue) there);
    ledger = (begins_standing buffers home view ofs handler begins).ledger;
    makers = makers_begin buffers home view ofs handler begins (run_of ofs home view) (calls_in scene (run_of ofs home view));
    placed = λ s there.
        let found = in_some (steps_by (run_of ofs home view)) (rising_actors scene) s there in
        let at = map_has (λ (at : DoneAt). record { actor = found.0.number; at = at }) (places_of (trace_among ofs found.0.number)) s found.2 in
        absurd (none_done (trace_among ofs found.0.number) at.0 (none_traced ofs found.0.number begins.fresh) at.1);
  }
