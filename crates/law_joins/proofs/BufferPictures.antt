-- After each vsync of a compositor each buffer on a layer has the scene's picture of its number: it was acquired, and expects that picture.
use Rattle.std.proofs.Common.{◌≡◌, ℕ, ◌==◌, true, List, [], map, ap, sym, ◌∙◌, subst}
use Rattle.std.specs.List.{All}
use Rattle.std.proofs.lemmas.Bool.{eqb-true}
use Rattle.std.proofs.lemmas.List.Elements.{All-contains, All-weaker}
use Rattle.atomic_table.specs.Seated.{TableId}
use Rattle.law_threads.specs.sf_layer.declared.shown.Shown.{Shown}
use Rattle.law_threads.specs.sf_surface.declared.mark.QueueMark.{QueueMark}
use Rattle.law_threads.specs.sf_surface.Reading.{PlainLease}
use Rattle.law_threads.specs.sf_surface.Tokens.{Issued, ReadLeaseOf}
use Rattle.law_threads.specs.sf_turns.Views.{SeatView}
use Rattle.law_threads.specs.sf_txn.declared.lease.Lease.{Ghosts}
use Rattle.law_threads.specs.sf_commit.OnLayers.{OnLayer}
use Rattle.law_threads.specs.sf_script_scene.Scene.{SceneValue, has_queue}
use Rattle.law_threads.specs.sf_actor.Desks.{DeskHome, DeskView}
use Rattle.law_threads.specs.sf_actor.Plain.{PlainOf, home_of as plain_home, view_of as plain_view}
use Rattle.law_threads.specs.sf_actor.Scripts.{picture_at}
use Rattle.law_threads.specs.sf_actor.Tries.{ActorOf}
use Rattle.law_threads.proofs.law_played_lemmas.AcquiredFrames.{shows_picture}
use Rattle.law_threads.specs.law_played.Actors.{AreActors, AreCalls}
use Rattle.law_threads.specs.sf_play_report.Stages.{AreExpected}
use Rattle.law_threads.specs.sf_live_seats.declared.locks.Locks.{Locks}
use Rattle.law_threads.specs.sf_live_threads.Walks.{Moment}
use Rattle.law_threads.proofs.sf_play_lemmas.HandlerLeases.{IsArrivedLent, OfFrames}
use Rattle.law_threads.proofs.sf_play_lemmas.SeenTimelines.{one_passes}
use Rattle.law_threads.specs.sf_play.Players.{IsBufferLent}
use Rattle.law_threads.specs.sf_play.Playing.{expected_by}
use Rattle.law_joins.specs.Frames.{AllFind}
use Rattle.law_joins.specs.Joined.{IsJoined}
use Rattle.law_joins.specs.Logs.{HoldsLent, taken_of}
use Rattle.law_joins.proofs.Lends.{back_all, front_all, lent_after, log_lent}
use Rattle.law_joins.proofs.PlayerAtJoin.{actors, called_there, callers, came, home_marks, marks_are, marks_declared, none_on, none_pending}
use Rattle.law_threads.specs.Joining.{of_at}
use Rattle.law_threads.specs.sf_live_compositor.Vsyncs.{Begin, More, Sitting, Vsyncs}

module _ {B : Type 0} (scene : SceneValue) (ofs : List (ActorOf B)) (home : DeskHome) (joined : DeskView B) (are : AreActors scene ofs home joined) (calls : AreCalls scene ofs home joined) where
  -- a buffer on a layer expects the scene's picture of its number
  buffer_expects : (one : OnLayer ReadLeaseOf) → IsBufferLent joined one.shown one.lease → one.lease.turn.expects ≡ picture_at scene.pictures one.shown.picture
  buffer_expects one is =
      is.lent.expects
      ∙ shows_picture scene ofs home joined one.lease.queue.0 is.lent.made is.lent.first are calls is.lent.there is.lent.takes
      ∙ ap (λ (l : PlainLease). picture_at scene.pictures l.picture) (sym is.lent.plain)
      ∙ ap (λ (s : Shown). picture_at scene.pictures s.picture) (sym is.shows)

  module _ (lease : Ghosts ReadLeaseOf SeatView ReadLeaseOf Issued) (frames : OfFrames lease) (table : TableId) (locks : Locks B) (period : ℕ) where
    vsync_finds : (after : Sitting B) → HoldsLent joined after.handler → AreExpected expected_by (picture_at scene.pictures) after.handler
    vsync_finds after lent =
        All-weaker (λ (one : OnLayer ReadLeaseOf). IsBufferLent joined one.shown one.lease) (λ (one : OnLayer ReadLeaseOf). one.lease.turn.expects ≡ picture_at scene.pictures one.shown.picture) buffer_expects after.handler.on lent.on

    log_finds : (start last : Sitting B) (log : Vsyncs lease table locks period start last) → start.handler.pending ≡ [] → start.handler.on ≡ [] → All (IsArrivedLent joined) (taken_of lease table locks period log)
        → AllFind lease table locks period (picture_at scene.pictures) log
    log_finds start last Begin pending on brought = tt
    log_finds start last (More {before} {after} log v) pending on brought =
        let taken = taken_of lease table locks period log in
        let first_then = front_all (IsArrivedLent joined) taken v.arrived brought in
        let lent = log_lent lease frames table locks period joined start before log pending on first_then in (
          log_finds start before log pending on first_then,
          vsync_finds after (lent_after lease frames table locks period joined before after v lent (back_all (IsArrivedLent joined) taken v.arrived brought)),
        )

module _ {B : Type 0} (lease : Ghosts ReadLeaseOf SeatView ReadLeaseOf Issued) (frames : OfFrames lease) (scene : SceneValue) (table : TableId) (period most : ℕ) (locks : Locks B) (last : Sitting B) (ends : List (Moment B)) (desk : PlainOf B)
    (is : IsJoined lease scene table period most locks last ends desk) where
  -- the calls on the desk are those of the scene
  are_calls : AreCalls scene (map of_at ends) (plain_home desk) (plain_view desk)
  are_calls = record {
    marks = marks_are scene is.joins.limits (plain_home desk).marks (home_marks lease scene table period most locks last ends desk is);
    declared = λ queue made there.
        let mark = one_passes (λ (mark : QueueMark). mark.queue.0 == queue) (plain_home desk).marks (called_there desk.queues queue made there) in
        subst (λ (q : ℕ). has_queue scene.queues q ≡ true) (eqb-true mark.0.queue.0 queue mark.2)
        (All-contains (λ (m : QueueMark). has_queue scene.queues m.queue.0 ≡ true) (plain_home desk).marks mark.0 (marks_declared scene is.joins.limits (plain_home desk).marks (home_marks lease scene table period most locks last ends desk is)) mark.1);
    legal = is.legal;
    callers = callers lease scene table period most locks last ends desk is;
  }

  pub all_find : AllFind lease table locks period (picture_at scene.pictures) is.joins.log
  all_find =
      log_finds scene (map of_at ends) (plain_home desk) (plain_view desk) (actors lease scene table period most locks last ends desk is) are_calls lease frames table locks period is.joins.begins last is.joins.log
      (none_pending lease scene table period most locks last ends desk is) (none_on lease scene table period most locks last ends desk is) (came lease scene table period most locks last ends desk is)
