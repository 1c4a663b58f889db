-- What a vsync leaves to whoever shows it: the stage, whose buffers have the scene's pictures.
use Rattle.std.proofs.Common.{◌≡◌, ℕ, ◌≤◌, ◌==◌, length, ap, sym, ◌∙◌, subst, arith}
use Rattle.std.specs.Prelude.{true}
use Rattle.std.proofs.lemmas.Bool.{eqb-true}
use Rattle.std.proofs.lemmas.List.Elements.{All-contains, All-weaker}
use Rattle.atomic_table.specs.Seated.{TableId}
use Rattle.sf_play_report.specs.sf_layer.declared.shown.Shown.{Shown}
use Rattle.sf_play_report.specs.sf_calls.Histories.{IsLegal}
use Rattle.sf_play_report.specs.sf_surface.Histories.{Answers}
use Rattle.sf_play_report.specs.sf_surface.Reading.{PlainLease}
use Rattle.sf_play_report.specs.sf_surface.Tokens.{ReadLeaseOf}
use Rattle.sf_play_report.specs.sf_surface.declared.mark.QueueMark.{QueueMark}
use Rattle.sf_play_report.specs.sf_turns.Views.{SeatView}
use Rattle.sf_play_report.specs.sf_txn.Buffers.{Shows}
use Rattle.sf_play_report.specs.sf_txn.declared.lease.Lease.{Ghosts}
use Rattle.sf_play_report.specs.sf_commit.Leases.{ShowsLease}
use Rattle.sf_play_report.specs.sf_commit.OnLayers.{OnLayer}
use Rattle.sf_script_scene.specs.Scene.{SceneValue, has_queue}
use Rattle.sf_play_report.specs.sf_actor.Desks.{mark_among}
use Rattle.sf_play_report.specs.sf_actor.Known.{frame_of}
use Rattle.sf_play_report.specs.sf_actor.Scripts.{picture_at}
use Rattle.sf_play_report.proofs.law_played_lemmas.DeskOfOneThread.{desk_called}
use Rattle.sf_play_report.proofs.law_played_lemmas.FrameLemmas.{is_plan}
use Rattle.sf_play_report.proofs.law_played_lemmas.LimitLemmas.{few_layers, most_played}
use Rattle.sf_play_report.proofs.law_played_lemmas.AcquiredFrames.{shows_picture}
use Rattle.sf_play_report.specs.law_played.Actors.{AreCalls}
use Rattle.sf_play_report.specs.law_played.Frames.{plan_of}
use Rattle.sf_play_report.specs.law_played.Vsyncs.{vsyncs_in}
use Rattle.sf_play_report.specs.Stages.{AreExpected, IsStage}
use Rattle.sf_play.proofs.SeenTimelines.{one_passes}
use Rattle.sf_play.specs.Players.{IsBufferLent, PlayOf, SoFar, home_in, taken_at, view_in, written_so}
use Rattle.sf_play.specs.Players.{Stands as PlayStands}
use Rattle.sf_play.specs.Playing.{KeepsItself, expected_by}

module _ {B : Type 0} where
  -- the calls on the desk are those of the scene, where they are legal
  pub calls_are : (table : TableId) (scene : SceneValue) (so : SoFar B) (play : PlayOf B) → PlayStands table scene so play → ((queue : ℕ) → IsLegal (Answers (mark_among (home_in play).marks queue)) ((view_in play).calls queue))
      → AreCalls scene so.actors (home_in play) (view_in play)
  calls_are table scene so play stands legal = record {
    marks = stands.desk.marks;
    declared = λ queue made there.
        let mark = one_passes (λ (mark : QueueMark). mark.queue.0 == queue) (home_in play).marks (desk_called play.actor_set.desk queue made there) in
        subst (λ (q : ℕ). has_queue scene.queues q ≡ true) (eqb-true mark.0.queue.0 queue mark.2) (All-contains (λ (m : QueueMark). has_queue scene.queues m.queue.0 ≡ true) (home_in play).marks mark.0 stands.desk.declared mark.1);
    legal = legal;
    callers = stands.tell.callers;
  }

  -- a buffer on a layer expects the scene's picture of its number
  buffer_expects : (table : TableId) (scene : SceneValue) (so : SoFar B) (play : PlayOf B) (stands : PlayStands table scene so play) → AreCalls scene so.actors (home_in play) (view_in play) → (one : OnLayer ReadLeaseOf)
      → IsBufferLent (view_in play) one.shown one.lease → one.lease.turn.expects ≡ picture_at scene.pictures one.shown.picture
  buffer_expects table scene so play stands calls one is =
      is.lent.expects
      ∙ shows_picture scene so.actors (home_in play) (view_in play) one.lease.queue.0 is.lent.made is.lent.first stands.tell.actors calls is.lent.there is.lent.takes
      ∙ ap (λ (l : PlainLease). picture_at scene.pictures l.picture) (sym is.lent.plain)
      ∙ ap (λ (s : Shown). picture_at scene.pictures s.picture) (sym is.shows)

  pub are_expected : (table : TableId) (scene : SceneValue) (so : SoFar B) (play : PlayOf B) → PlayStands table scene so play → ((queue : ℕ) → IsLegal (Answers (mark_among (home_in play).marks queue)) ((view_in play).calls queue))
      → AreExpected expected_by (picture_at scene.pictures) play.handler
  are_expected table scene so play stands legal =
      All-weaker (λ (one : OnLayer ReadLeaseOf). IsBufferLent (view_in play) one.shown one.lease) (λ (one : OnLayer ReadLeaseOf). expected_by one ≡ picture_at scene.pictures one.shown.picture)
      (λ (one : OnLayer ReadLeaseOf). buffer_expects table scene so play stands (calls_are table scene so play stands legal) one) play.handler.on stands.leases.on

  -- after a vsync there is a stage for the scene's plan
  module _ {R C : Type 0} (lease : Ghosts ReadLeaseOf SeatView R C) (table : TableId) (scene : SceneValue) (so : SoFar B) (new : PlayOf B) (stands : PlayStands table scene so new) (keeps : KeepsItself lease table new)
      (shows : (one : OnLayer ReadLeaseOf) → ShowsLease lease one → Shows one.shown one.lease.turn.expects) where
    few : length new.handler.tree.layers ≤ 1024
    few =
        let room = keeps.few in
        let most = most_played frame_of scene (written_so scene so new) (taken_at new) (vsyncs_in so.events) new.handler stands.vsyncs.played in
        let low = few_layers scene.version in
        omega (arith, room, most, low)

    pub is_stage : IsStage expected_by (plan_of scene) new.handler
    unfolding plan_of
    is_stage =
        let handler = keeps.handler stands.of_scene.decides in
        record {
          planned = is_plan scene stands.of_scene.limits;
          few = few;
          stands = handler.stands;
          crops = All-weaker (ShowsLease lease) (λ (one : OnLayer ReadLeaseOf). Shows one.shown (expected_by one)) shows new.handler.on handler.crops;
        }
