-- The makers of buffers are followed through the run of a play, and what draws entered is in turn: so it is after each action, and it
-- tells which draws are older.
use Rattle.std.proofs.Common.{◌≡◌, ℕ, set, sym, subst}
use Rattle.std.specs.Prelude.{Contains}
use Rattle.atomic_table.specs.Seated.{TableId}
use Rattle.sf_base.specs.declared.fences.Seen.{Seen}
use Rattle.sf_play_report.specs.sf_surface.Tokens.{Issued, ReadLeaseOf}
use Rattle.sf_play_report.specs.sf_turns.Counts.{IsExact}
use Rattle.sf_play_report.specs.sf_turns.Views.{SeatView}
use Rattle.sf_play_report.specs.sf_txn.declared.lease.Lease.{Ghosts}
use Rattle.sf_play_report.specs.sf_commit.Releases.{CommittedOf}
use Rattle.sf_script_scene.specs.Scene.{SceneValue}
use Rattle.sf_play_report.specs.sf_actor.declared.tried.Stepped.{Stepped}
use Rattle.sf_play_report.specs.sf_actor.Desks.{DeskHome, KnowsAll}
use Rattle.sf_play_report.specs.sf_actor.Plain.{home_of, view_of}
use Rattle.sf_play_report.specs.sf_actor.Scripts.{picture_at}
use Rattle.sf_play_report.specs.sf_actor.Tries.{ActorOf}
use Rattle.law_rights.specs.sf_actor_set.ActorSets.{ActorSetOf, IsSameActorSet, StepsAt}
use Rattle.sf_play_report.specs.law_played.Stepping.{TellsFirst}
use Rattle.sf_play_report.specs.law_played.Stopping.{TellsOlder}
use Rattle.sf_play_report.specs.law_played.Turns.{DrawAfterOwed, calls_in}
use Rattle.law_rights.proofs.FirstLemmas.{tells_first}
use Rattle.law_rights.proofs.InTurnEnd.{draw_after_owed}
use Rattle.law_rights.proofs.InTurnSteps.{step_in_turn, vsync_in_turn}
use Rattle.law_rights.proofs.MakersPlayed.{step_makers, vsync_makers}
use Rattle.law_rights.proofs.MakersTelling.{makers_tell}
use Rattle.law_rights.proofs.OlderLemmas.{tells_older}
use Rattle.law_rights.specs.InTurn.{DrawsStand}
use Rattle.law_rights.specs.MakerRuns.{MakersPlay}
use Rattle.law_rights.specs.Standing.{state_of}
use Rattle.law_rights.specs.Vsyncs.{IsOfTurns}
use Rattle.sf_play.proofs.HandlerLeases.{OfFrames}
use Rattle.sf_play.proofs.PlayLedger.{IsLegalDesk, TellsAll, are_over, home_then, none_absent, vsync_in}
use Rattle.sf_play.specs.Players.{PlayOf, SoFar, Stands, home_in, run_so, view_in}
use Rattle.sf_play.specs.Playing.{KeepsRights}
use Rattle.sf_play.specs.Vsyncing.{MakesVsync}

module _ {B : Type 0} (table : TableId) (scene : SceneValue) (so : SoFar B) (old : PlayOf B) (stands : Stands table scene so old) (rights : KeepsRights table scene so old) (legal : IsLegalDesk old.actor_set.desk)
    (knows : KnowsAll (view_in old)) (own : old.actor_set.desk.turns.table ≡ table) where
  exact : IsExact table.slots (view_in old).turns.leaves (view_in old).turns.seen
  exact = subst (λ (t : TableId). IsExact t.slots (view_in old).turns.leaves (view_in old).turns.seen) own knows.leaves

  -- after a try of an actor's next step
  pub makers_tried : (place : ℕ) (actor_set : ActorSetOf B) (same : IsSameActorSet old.actor_set actor_set) (st : Stepped) (s : StepsAt table (picture_at scene.pictures) place old.actor_set.actors so.actors old.actor_set.desk actor_set.actors actor_set.desk st)
      → MakersPlay scene (home_of actor_set.desk) (view_of actor_set.desk) (set so.actors place s.new) old.handler
  makers_tried place actor_set same st s =
      step_makers scene table table.slots place scene.pictures so.actors old.actor_set.actors actor_set.actors old.actor_set.desk actor_set.desk st old.handler s stands.keep rights.plays same.home
      (are_over table scene so old stands rights.ledger legal) rights.ledger stands.desk.declared stands.tell.actors.apart rights.makers

  pub draws_tried : (place : ℕ) (actor_set : ActorSetOf B) (same : IsSameActorSet old.actor_set actor_set) (st : Stepped) (s : StepsAt table (picture_at scene.pictures) place old.actor_set.actors so.actors old.actor_set.desk actor_set.actors actor_set.desk st)
      → DrawsStand scene (home_of actor_set.desk) (view_of actor_set.desk) (set so.actors place s.new) old.handler
  draws_tried place actor_set same st s =
      step_in_turn scene table table.slots place scene.pictures so.actors old.actor_set.actors actor_set.actors old.actor_set.desk actor_set.desk st old.handler s stands.keep rights.plays same.home
      (are_over table scene so old stands rights.ledger legal) rights.ledger stands.desk.declared stands.of_scene.limits stands.tell.actors exact knows.first knows.none_out rights.makers rights.draws

  -- after a vsync
  pub makers_vsync : (lease : Ghosts ReadLeaseOf SeatView ReadLeaseOf Issued) (frames : OfFrames lease) (of_turns : IsOfTurns lease) (tells : TellsAll lease) (new : PlayOf B) (seen : Seen) (told : CommittedOf ReadLeaseOf)
      → MakesVsync lease table old seen told new → MakersPlay scene (home_in new) (view_in new) so.actors new.handler
  makers_vsync lease frames of_turns tells new seen told v =
      subst (λ (h : DeskHome). MakersPlay scene h (view_in new) so.actors new.handler) (sym (home_then lease frames of_turns tells table scene so old new seen told stands rights.ledger v))
      (vsync_makers scene (home_in old) so.actors (view_in old) old.handler lease table.slots (view_in new) new.handler
      (vsync_in lease frames of_turns tells table scene so old new seen told stands rights.ledger v) rights.ledger tells.places stands.desk.declared rights.makers)

  pub draws_vsync : (lease : Ghosts ReadLeaseOf SeatView ReadLeaseOf Issued) (frames : OfFrames lease) (of_turns : IsOfTurns lease) (tells : TellsAll lease) (new : PlayOf B) (seen : Seen) (told : CommittedOf ReadLeaseOf)
      → MakesVsync lease table old seen told new → DrawsStand scene (home_in new) (view_in new) so.actors new.handler
  draws_vsync lease frames of_turns tells new seen told v =
      subst (λ (h : DeskHome). DrawsStand scene h (view_in new) so.actors new.handler) (sym (home_then lease frames of_turns tells table scene so old new seen told stands rights.ledger v))
      (vsync_in_turn scene (home_in old) so.actors (view_in old) old.handler lease table.slots (view_in new) new.handler
      (vsync_in lease frames of_turns tells table scene so old new seen told stands rights.ledger v) rights.ledger tells.places stands.desk.declared rights.makers rights.draws)

  -- where nothing was shown since, a look that shows an earlier turn shows an older draw
  pub older_told : (new : PlayOf B) → Stands table scene so new → KeepsRights table scene so new → (of : ActorOf B) → Contains so.actors of → TellsOlder scene (run_so so new) of (view_in old) (view_in new)
  older_told new now kept of there =
      tells_older (picture_at scene.pictures) table.slots (home_in old) (view_in old) so.actors old.handler rights.ledger (are_over table scene so old stands rights.ledger legal) exact scene (home_in new) (view_in new)
      now.tell.actors (makers_tell (run_so so new) (calls_in scene (run_so so new)) (state_of (home_in new) (view_in new) so.actors new.handler) kept.ledger.ledger kept.makers) knows.first knows.none_out of there

  -- where a look shows that all earlier turns have left, no older draw is owed
  pub first_told : (of : ActorOf B) → Contains so.actors of → TellsFirst scene (run_so so old) of (view_in old)
  first_told =
      tells_first scene so.actors (home_in old) (view_in old) stands.tell.actors (picture_at scene.pictures) table.slots old.handler rights.ledger (are_over table scene so old stands rights.ledger legal) exact
      rights.makers knows.first knows.none_out

  -- each draw came after those that were owed before it
  pub draws_came : DrawAfterOwed scene (run_so so old)
  draws_came =
      draw_after_owed scene so.actors (home_in old) (view_in old) old.handler stands.of_scene.limits stands.tell.actors (λ queue none. none_absent old.actor_set.desk.queues queue none) rights.draws
