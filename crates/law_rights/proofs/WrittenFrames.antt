-- The frames that a standing ledger has written are those that the run says are written.
use Rattle.std.proofs.Common.{◌≡◌, ℕ, List, [], ◌∷◌, ◌++◌, ap, ◌∙◌, sym, refl, map}
use Rattle.std.specs.Prelude.{Contains}
use Rattle.std.specs.List.{flat_map}
use Rattle.std.specs.List.Sorted.{IsStrictlyIncreasing}
use Rattle.sf_actor_set.specs.sf_commit.Handlers.{HandlerOf}
use Rattle.sf_actor_set.specs.sf_picture.declared.picture.Picture.{Picture}
use Rattle.sf_actor_set.specs.sf_script_scene.declared.step.ActorScript.{ActorScript}
use Rattle.sf_actor_set.specs.sf_script_scene.Limits.{IsWithinLimits}
use Rattle.sf_actor_set.specs.sf_script_scene.Scene.{SceneValue}
use Rattle.sf_actor_set.specs.sf_surface.Reading.{has_left}
use Rattle.sf_actor_set.specs.sf_surface.Tokens.{ReadLeaseOf}
use Rattle.sf_actor_set.specs.sf_turns.Counts.{IsExact}
use Rattle.sf_actor_set.specs.sf_actor.declared.done.Done.{Done}
use Rattle.sf_actor_set.specs.sf_actor.Desks.{DeskHome, DeskView}
use Rattle.sf_actor_set.specs.sf_actor.Known.{frame_of}
use Rattle.sf_actor_set.specs.sf_actor.Rights.{turn_by}
use Rattle.sf_actor_set.specs.sf_actor.Tries.{ActorOf}
use Rattle.sf_actor_set.specs.sf_actor.Written as written
use Rattle.law_played.specs.Actors.{AreActors, number_of, run_of, script_of, trace_among}
use Rattle.law_played.specs.Commits.{is_written}
use Rattle.law_played.specs.Runs.{written_in}
use Rattle.law_played.proofs.RisingNumbers.{rising_actors_are}
use Rattle.law_played.proofs.RunTraces.{trace_here}
use Rattle.law_rights.specs.Actors.{AreOver}
use Rattle.law_rights.specs.Loads.{WasAcquired}
use Rattle.law_rights.specs.Standing.{LedgerStands, state_of}
use Rattle.law_rights.specs.States.{all_written}
use Rattle.law_rights.proofs.TurnCounts.{first, later}
use Rattle.law_rights.proofs.PermitStock.{stands_look}

module _ {B : Type 0} where
  wrote_here : (ofs part : List (ActorOf B)) → IsStrictlyIncreasing (map number_of ofs) → ((of : ActorOf B) → Contains part of → Contains ofs of)
      → flat_map (λ (script : ActorScript). written.written_in (trace_among ofs script.number)) (map script_of part) ≡ flat_map (λ (of : ActorOf B). written.written_in of.trace) part
  wrote_here ofs [] apart among = refl
  wrote_here ofs (of ∷ part) apart among =
      let rest = wrote_here ofs part apart (λ other there. among other (later of other part there)) in
      ap (λ (trace : List Done). written.written_in trace ++ flat_map (λ (script : ActorScript). written.written_in (trace_among ofs script.number)) (map script_of part)) (trace_here ofs of apart (among of (first of part)))
      ∙ ap (λ (xs : List written.FrameNumber). written.written_in of.trace ++ xs) rest

  pub all_written_is : (scene : SceneValue) (home : DeskHome) (view : DeskView B) (ofs : List (ActorOf B)) (handler : HandlerOf ReadLeaseOf) → IsWithinLimits scene → AreActors scene ofs home view
      → all_written (state_of home view ofs handler) ≡ written_in scene (run_of ofs home view)
  all_written_is scene home view ofs handler limits actors =
      sym (ap (flat_map (λ (script : ActorScript). written.written_in (trace_among ofs script.number))) (rising_actors_are scene ofs home view limits actors)
      ∙ wrote_here ofs ofs actors.apart (λ of there. there))

  -- so a look at an acquired frame tells whether it is written in the run
  pub look_is_written : (scene : SceneValue) (pictures : ℕ → Picture) (buffers : ℕ) (home : DeskHome) (view : DeskView B) (ofs : List (ActorOf B)) (handler : HandlerOf ReadLeaseOf) → IsWithinLimits scene → AreActors scene ofs home view
      → LedgerStands buffers home view ofs handler → AreOver pictures home view ofs → IsExact buffers view.turns.leaves view.turns.seen → (lease : ReadLeaseOf) → WasAcquired home.marks view.calls lease
      → has_left view.turns.leaves (turn_by lease.turn) ≡ is_written (written_in scene (run_of ofs home view)) (frame_of lease)
  look_is_written scene pictures buffers home view ofs handler limits actors stands over exact lease was =
      stands_look pictures buffers home view ofs handler stands over exact lease was
      ∙ ap (λ (wrote : List written.FrameNumber). is_written wrote (frame_of lease)) (all_written_is scene home view ofs handler limits actors)
