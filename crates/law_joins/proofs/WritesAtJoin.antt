-- What an eye knew to have ended while threads ran is written at the join.
use Rattle.std.proofs.Common.{◌≡◌, ℕ, ◌<◌, ◌≤◌, true, List, ap, sym, ◌∙◌, subst, arith}
use Rattle.std.specs.Prelude.{Contains, nat_le}
use Rattle.std.specs.List.{list_any}
use Rattle.std.proofs.lemmas.Bool.{le-leb}
use Rattle.sf_base.specs.Points.{greatest}
use Rattle.law_threads.specs.sf_surface.Histories.{Made}
use Rattle.law_threads.specs.sf_surface.Tokens.{Issued, ReadLeaseOf}
use Rattle.law_threads.specs.sf_turns.Counts.{IsExact, leaves_of}
use Rattle.law_threads.specs.sf_turns.Views.{SeatView}
use Rattle.law_threads.specs.sf_txn.declared.lease.Lease.{Ghosts}
use Rattle.law_threads.specs.sf_commit.Handlers.{HandlerOf}
use Rattle.law_threads.specs.sf_script_scene.Limits.{IsWithinLimits}
use Rattle.law_threads.specs.sf_script_scene.Scene.{SceneValue}
use Rattle.law_threads.specs.sf_actor.Desks.{DeskHome, DeskView}
use Rattle.law_threads.specs.sf_actor.Rights.{Turn}
use Rattle.law_threads.specs.sf_actor.Scripts.{picture_at}
use Rattle.law_threads.specs.sf_actor.Tries.{ActorOf}
use Rattle.law_threads.specs.law_played.Actors.{AreActors, run_of}
use Rattle.law_threads.specs.law_played.Runs.{written_in}
use Rattle.law_threads.specs.law_rights.Actors.{AreOver}
use Rattle.law_threads.specs.law_rights.Loads.{WasAcquired}
use Rattle.law_threads.specs.law_rights.Standing.{LedgerStands, state_of}
use Rattle.law_threads.specs.law_rights.States.{all_buffers, is_queue}
use Rattle.law_threads.proofs.law_rights_lemmas.WrittenFrames.{look_is_written}
use Rattle.law_threads.proofs.law_rights_lemmas.PermitStock.{made_in_stocks}
use Rattle.law_threads.proofs.law_rights_lemmas.AcquiredRights.{acquired_queued}
use Rattle.law_threads.specs.sf_play.Players.{WasLent}
use Rattle.law_joins.specs.Logs.{KnowsWritten}

-- an eye knows only writes whose turns it has seen to have left
abbrev pub KnowsByCounts : Ghosts ReadLeaseOf SeatView ReadLeaseOf Issued → Type 0
KnowsByCounts lease = (eye : SeatView) (l : ReadLeaseOf) → lease.knows eye l → l.turn.number ≤ greatest l.turn.buffer eye.seen

module _ {B : Type 0} (scene : SceneValue) (buffers : ℕ) (home : DeskHome) (joined : DeskView B) (ofs : List (ActorOf B)) (handler : HandlerOf ReadLeaseOf) (limits : IsWithinLimits scene)
    (actors : AreActors scene ofs home joined) (ledger : LedgerStands buffers home joined ofs handler) (over : AreOver (picture_at scene.pictures) home joined ofs) (exact : IsExact buffers joined.turns.leaves joined.turns.seen)
    (there : (queue : ℕ) (made : Made B) → Contains (joined.calls queue) made → list_any (is_queue queue) home.marks ≡ true) where
  acquired : (l : ReadLeaseOf) → WasLent joined l → WasAcquired home.marks joined.calls l
  acquired l was = record {
    queue = l.queue.0;
    there = there l.queue.0 was.made was.there;
    legal = over.legal l.queue.0;
    made = was.made;
    made_there = was.there;
    expected = was.takes.expected;
    given = was.first;
    asked = was.takes.call;
    gives = was.takes.gives;
    plain = was.plain;
    number = was.number;
  }

  below : (l : ReadLeaseOf) → WasLent joined l → l.turn.buffer < buffers
  below l was =
      let queued = acquired_queued (state_of home joined ofs handler) l (acquired l was) in
      let made : Contains (all_buffers home.marks joined.calls) l.turn.buffer =
      subst (λ (b : ℕ). Contains (all_buffers home.marks joined.calls) b) (sym (ap (λ (t : Turn). t.0) queued.follows)) (ledger.ledger.queued_made queued.write queued.queued) in
      ledger.below l.turn.buffer (made_in_stocks (picture_at scene.pictures) home joined ofs over l.turn.buffer made)

  pub knows_written : (lease : Ghosts ReadLeaseOf SeatView ReadLeaseOf Issued) → KnowsByCounts lease → KnowsWritten lease joined (written_in scene (run_of ofs home joined))
  knows_written lease by_counts = record {
    known = λ eye l counts was knows.
        let number = by_counts eye l knows in
        let rises = counts l.turn.buffer in
        let most = exact.unseen l.turn.buffer (below l was) in
        sym (look_is_written scene (picture_at scene.pictures) buffers home joined ofs handler limits actors ledger over exact l (acquired l was))
        ∙ has_gone l.turn.number (leaves_of l.turn.buffer joined.turns.leaves) (omega (arith, number, rises, most));
  }
    where
      has_gone : (n m : ℕ) → n ≤ m → nat_le n m ≡ true
      has_gone n m low = le-leb n m low
