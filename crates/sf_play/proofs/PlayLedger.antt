-- The ledger of a play: it stands before the first action and after a vsync, and tells what a vsync's looks show.
use Rattle.std.proofs.Common.{◌≡◌, ℕ, zero, suc, ◌+◌, ◌*◌, ◌≤◌, ◌==◌, ◌||◌, Bool, true, false, List, [], ◌∷◌, ◌++◌, length, map, take, drop, refl, ap, sym, ◌∙◌, subst, inl, inr, arith}
use Rattle.std.specs.Prelude.{Contains}
use Rattle.std.specs.List.{All, flat_map, list_any}
use Rattle.std.proofs.lemmas.Bool.{cases_Bool, false≢true}
use Rattle.std.proofs.lemmas.List.Elements.{All-weaker}
use Rattle.atomic_table.specs.Seated.{TableId}
use Rattle.sf_base.specs.declared.fences.Seen.{Seen}
use Rattle.sf_play_report.specs.sf_calls.Histories.{IsLegal}
use Rattle.sf_play_report.specs.sf_surface.Histories.{Answers, Made}
use Rattle.sf_play_report.specs.sf_surface.Objects.{ObjectOf, mark_of}
use Rattle.sf_play_report.specs.sf_surface.Reading.{has_left}
use Rattle.sf_play_report.specs.sf_surface.Tokens.{Issued, ReadLeaseOf}
use Rattle.sf_play_report.specs.sf_token.Arrivals.{Calls, sent, waiting}
use Rattle.sf_play_report.specs.sf_token.Pending.{Arrival}
use Rattle.sf_play_report.specs.sf_turns.Counts.{IsExact}
use Rattle.sf_play_report.specs.sf_turns.Views.{SeatView}
use Rattle.sf_play_report.specs.sf_txn.Buffers.{Buffer, Shows}
use Rattle.sf_play_report.specs.sf_txn.declared.lease.Lease.{Ghosts}
use Rattle.sf_play_report.specs.sf_commit.Handlers.{Decides}
use Rattle.sf_play_report.specs.sf_commit.Leases.{ShowsLease}
use Rattle.sf_play_report.specs.sf_commit.OnLayers.{OnLayer}
use Rattle.sf_play_report.specs.sf_commit.Releases.{ReleaseOf, CommittedOf}
use Rattle.sf_script_scene.specs.Limits.{IsWithinLimits}
use Rattle.sf_script_scene.specs.Scene.{SceneValue}
use Rattle.sf_script_scene.specs.declared.step.ActorScript.{ActorScript}
use Rattle.sf_play_report.specs.sf_actor.Desks.{DeskHome, DeskView, KnowsAll, has_queue, mark_among}
use Rattle.sf_play_report.specs.sf_actor.Known.{frame_of}
use Rattle.sf_play_report.specs.sf_actor.Plain.{PlainOf, calls_among, home_of, taken_in, view_of}
use Rattle.sf_play_report.specs.sf_actor.Rights.{turn_by}
use Rattle.sf_play_report.specs.sf_actor.Scripts.{picture_at}
use Rattle.sf_play_report.specs.sf_actor.Tries.{ActorOf}
use Rattle.sf_play_report.specs.sf_actor.Written as written
use Rattle.law_rights.proofs.sf_actor_set_lemmas.ArrivalLemmas.{sent_is, waiting_many}
use Rattle.sf_play_report.proofs.law_played_lemmas.LeaseLemmas.{looks_tell_all}
use Rattle.sf_play_report.proofs.law_played_lemmas.Members.{has_here, has_later, has_none}
use Rattle.sf_play_report.proofs.law_played_lemmas.RisingNumbers.{rising_actors_are}
use Rattle.sf_play_report.proofs.law_played_lemmas.RunTraces.{trace_here}
use Rattle.sf_play_report.specs.law_played.Actors.{AreActors, run_of, script_of, trace_among}
use Rattle.sf_play_report.specs.law_played.Commits.{is_written}
use Rattle.sf_play_report.specs.law_played.Progress.{ShowsWhatIsWritten}
use Rattle.sf_play_report.specs.law_played.Runs.{written_in}
use Rattle.law_rights.specs.Actors.{AreOver}
use Rattle.law_rights.specs.Loads.{WasAcquired}
use Rattle.law_rights.specs.Standing.{GiveAll, LedgerStands, VsyncIn, home_taken}
use Rattle.law_rights.specs.PlaceTries.{TellsPlaces}
use Rattle.law_rights.specs.States.{is_queue}
use Rattle.law_rights.specs.Vsyncs.{IsOfTurns}
use Rattle.law_rights.proofs.VsyncLedger.{vsync_stands}
use Rattle.law_rights.proofs.PermitStock.{stands_look}
use Rattle.sf_play.proofs.VsyncKeepsPlayer.{arrived_is, calls_same, came, gives_now, home_now, sent_same, taken_all}
use Rattle.sf_play.proofs.HandlerLeases.{IsArrivedLent, OfFrames, looked_all}
use Rattle.sf_play.specs.Players.{IsBufferLent, PlayOf, SoFar, Stands, WasLent, home_in, view_in, written_so}
use Rattle.sf_play.specs.Vsyncing.{MakesVsync}

drop_taken : {A : Type 0} (n : ℕ) (xs ys : List A) → n ≤ length xs → drop n (take n xs ++ ys) ≡ ys
drop_taken zero xs ys low = refl
drop_taken (suc n) [] ys low = absurd (omega (arith, low))
drop_taken (suc n) (x ∷ xs) ys low = drop_taken n xs ys (omega (arith, low))

-- a part of what was written is what each actor of a rising list wrote
pub wrote_each : {B : Type 0} (scene : SceneValue) (ofs : List (ActorOf B)) (home : DeskHome) (view : DeskView B) (later : List (ActorOf B)) → AreActors scene ofs home view → ((of : ActorOf B) → Contains later of → Contains ofs of)
    → flat_map (λ (script : ActorScript). written.written_in (trace_among ofs script.number)) (map script_of later) ≡ flat_map (λ (of : ActorOf B). written.written_in of.trace) later
wrote_each scene ofs home view [] actors sub = refl
wrote_each scene ofs home view (of ∷ later) actors sub =
    let traced = trace_here ofs of actors.apart (sub of (has_here of later)) in
    let rest = wrote_each scene ofs home view later actors (λ other c. sub other (has_later of other later c)) in
    (λ i. written.written_in (traced i) ++ rest i)

-- the frames that were written, by the actors' list and by the scene's
pub wrote_so : {B : Type 0} (scene : SceneValue) (ofs : List (ActorOf B)) (home : DeskHome) (view : DeskView B) → IsWithinLimits scene → AreActors scene ofs home view
    → written_in scene (run_of ofs home view) ≡ flat_map (λ (of : ActorOf B). written.written_in of.trace) ofs
wrote_so scene ofs home view limits actors =
    ap (flat_map (λ (script : ActorScript). written.written_in (trace_among ofs script.number))) (rising_actors_are scene ofs home view limits actors) ∙ wrote_each scene ofs home view ofs actors (λ of there. there)

module _ {B : Type 0} where
  -- a queue that is not there was not called
  pub none_absent : (objects : List (ObjectOf B)) (queue : ℕ) → list_any (is_queue queue) (map mark_of objects) ≡ false → calls_among objects queue ≡ []
  none_absent [] queue none = refl
  none_absent (object ∷ objects) queue none = elim (cases_Bool (object.queue.number.0 == queue)) [
    | inl met ↦ absurd (false≢true (sym (subst (λ (b : Bool). (b || list_any (is_queue queue) (map mark_of objects)) ≡ false) met none)))
    | inr unmet ↦ rw unmet (none_absent objects queue (subst (λ (b : Bool). (b || list_any (is_queue queue) (map mark_of objects)) ≡ false) unmet none))
  ]

  called_there : (objects : List (ObjectOf B)) (queue : ℕ) (made : Made B) → Contains (calls_among objects queue) made → list_any (is_queue queue) (map mark_of objects) ≡ true
  called_there objects queue made there = elim (cases_Bool (list_any (is_queue queue) (map mark_of objects))) [
    | inl met ↦ met
    | inr unmet ↦ absurd (has_none made (subst (λ (calls : List (Made B)). Contains calls made) (none_absent objects queue unmet) there))
  ]

  abbrev pub IsLegalDesk : PlainOf B → Type 0
  IsLegalDesk desk = (queue : ℕ) → IsLegal (Answers (mark_among (home_of desk).marks queue)) ((view_of desk).calls queue)

  -- a lease that a call gave
  lent_acquired : (desk : PlainOf B) → IsLegalDesk desk → (lease : ReadLeaseOf) → WasLent (view_of desk) lease → WasAcquired (home_of desk).marks (view_of desk).calls lease
  lent_acquired desk legal lease was = record {
    queue = lease.queue.0;
    there = called_there desk.queues lease.queue.0 was.made was.there;
    legal = legal lease.queue.0;
    made = was.made;
    made_there = was.there;
    expected = was.takes.expected;
    given = was.first;
    asked = was.takes.call;
    gives = was.takes.gives;
    plain = was.plain;
    number = was.number;
  }

-- what the ghosts of a lease tell of turns that are all known, of where it is, and of what it expects
pub record TellsAll (lease : Ghosts ReadLeaseOf SeatView ReadLeaseOf Issued) : Type 0 where
  pub places : TellsPlaces lease
  pub shows : (one : OnLayer ReadLeaseOf) → ShowsLease lease one → Shows one.shown one.lease.turn.expects
  pub exact : (eye : SeatView) → eye.is_first ≡ true → eye.out ≡ 0 → lease.is_exact (lease.mark eye) ≡ true
  pub tells : (eye : SeatView) (l : ReadLeaseOf) → lease.tells (lease.ends eye) (lease.end l) ≡ has_left eye.leaves (turn_by l.turn)

module _ {B : Type 0} (table : TableId) (scene : SceneValue) (so : SoFar B) (play : PlayOf B) (stands : Stands table scene so play) (ledger : LedgerStands table.slots (home_in play) (view_in play) so.actors play.handler)
    (legal : IsLegalDesk play.actor_set.desk) where
  pub are_over : AreOver (picture_at scene.pictures) (home_in play) (view_in play) so.actors
  are_over = record { keep = stands.tell.actors.keep; apart = ledger.apart; legal = legal; callers = stands.tell.callers }

  module _ (knows : KnowsAll (view_in play)) (own : (view_in play).turns.table ≡ table) where
    -- what was looked at tells what is written
    pub tells_written : (lease : ReadLeaseOf) → WasLent (view_in play) lease → has_left (view_in play).turns.leaves (turn_by lease.turn) ≡ is_written (written_so scene so play) (frame_of lease)
    tells_written lease was =
        stands_look (picture_at scene.pictures) table.slots (home_in play) (view_in play) so.actors play.handler ledger are_over
        (subst (λ (t : TableId). IsExact t.slots (view_in play).turns.leaves (view_in play).turns.seen) own knows.leaves) lease (lent_acquired play.actor_set.desk legal lease was)
        ∙ ap (λ (ws : List written.FrameNumber). is_written ws (frame_of lease)) (sym (wrote_so scene so.actors (home_in play) (view_in play) stands.of_scene.limits stands.tell.actors))

module _ {B : Type 0} (lease : Ghosts ReadLeaseOf SeatView ReadLeaseOf Issued) (frames : OfFrames lease) (of_turns : IsOfTurns lease) (tells : TellsAll lease) (table : TableId) (scene : SceneValue) (so : SoFar B) (old new : PlayOf B) (seen : Seen)
    (told : CommittedOf ReadLeaseOf) (stands : Stands table scene so old) (ledger : LedgerStands table.slots (home_in old) (view_in old) so.actors old.handler) (v : MakesVsync lease table old seen told new) where
  abbrev before : PlainOf B
  before = old.actor_set.desk

  abbrev arrivals : Calls ReadLeaseOf SeatView ReadLeaseOf Issued
  arrivals = before.arrivals

  turns_same : v.took.desk.turns ≡ before.turns
  turns_same = ap (λ (d : PlainOf B). d.turns) v.arrivals ∙ ap (λ (d : PlainOf B). d.turns) v.times

  -- looks show just what is written
  pub looks_written : IsLegalDesk before → KnowsAll (view_of before) → before.turns.table ≡ table → ShowsWhatIsWritten frame_of lease.shown (written_so scene so old) v.decides.looked
  looks_written legal knows own =
      looks_tell_all lease frame_of (written_so scene so old) old.handler new.handler v.took.desk.turns v.decided.desk.turns v.arrived seen ((old.vsyncs + 1) * old.period) told v.decides
      (subst (λ (eye : SeatView). lease.is_exact (lease.mark eye) ≡ true) (sym turns_same) (tells.exact before.turns knows.first knows.none_out))
      (All-weaker (IsArrivedLent (view_of before)) (λ (a : Arrival ReadLeaseOf). All (λ (b : Buffer ReadLeaseOf). IsKnown b.lease) a.txn.buffers)
      (λ (a : Arrival ReadLeaseOf). All-weaker (λ (b : Buffer ReadLeaseOf). IsBufferLent (view_of before) b.shown b.lease) (λ (b : Buffer ReadLeaseOf). IsKnown b.lease) (λ (b : Buffer ReadLeaseOf) is. known b.lease is.lent) a.txn.buffers)
      v.decides.looked lent)
    where
      IsKnown : ReadLeaseOf → Type 0
      IsKnown l = lease.tells (lease.ends v.took.desk.turns) (lease.end l) ≡ is_written (written_so scene so old) (frame_of l)

      known : (l : ReadLeaseOf) → WasLent (view_of before) l → IsKnown l
      known l was = tells.tells v.took.desk.turns l ∙ ap (λ (eye : SeatView). has_left eye.leaves (turn_by l.turn)) turns_same ∙ tells_written table scene so old stands ledger legal knows own l was

      lent : All (IsArrivedLent (view_of before)) v.decides.looked
      lent = looked_all lease frames (view_of before) old.handler new.handler v.took.desk.turns v.decided.desk.turns v.arrived seen ((old.vsyncs + 1) * old.period) told v.decides stands.leases.pending
          (came lease frames table scene so old new seen told stands v) stands.leases.on

  arrived_dropped : v.arrived ≡ drop (taken_in arrivals) (sent arrivals)
  arrived_dropped =
      arrived_is lease frames table scene so old new seen told stands v
      ∙ sym (ap (drop (taken_in arrivals)) (sent_is arrivals) ∙ drop_taken (taken_in arrivals) (sent arrivals) (waiting arrivals) low)
    where
      low : taken_in arrivals ≤ length (sent arrivals)
      low = let many = waiting_many arrivals in omega (arith, many)

  pub home_then : home_of new.actor_set.desk ≡ home_taken (home_of before) (view_of before)
  home_then = home_now lease frames table scene so old new seen told stands v ∙ ap (λ (n : ℕ). record (home_of before) { taken = n }) (taken_all lease frames table scene so old new seen told stands v)

  pub vsync_in : VsyncIn lease (home_of before) (view_of before) old.handler (view_of new.actor_set.desk) new.handler
  vsync_in = record {
    of_turns = of_turns;
    unlent = stands.of_scene.unlent;
    arrived = v.arrived;
    all = arrived_dropped;
    seen = seen;
    expected = (old.vsyncs + 1) * old.period;
    told = told;
    decided = view_of v.decided.desk;
    calls = calls_same lease frames table scene so old new seen told stands v;
    arrivals = sent_same lease frames table scene so old new seen told stands v;
    decides = subst (λ (eye : SeatView). Decides lease old.handler eye v.arrived seen ((old.vsyncs + 1) * old.period) told new.handler v.decided.desk.turns) turns_same v.decides;
    number = old.vsyncs + 1;
    gives = subst (λ (n : ℕ). GiveAll (record (home_of before) { taken = n }) (old.vsyncs + 1) told.releases (view_of v.decided.desk) (view_of new.actor_set.desk)) (taken_all lease frames table scene so old new seen told stands v)
        (gives_now lease frames table scene so old new seen told stands v);
    not_called = λ queue none. none_absent new.actor_set.desk.queues queue
        (subst (λ (h : DeskHome). has_queue h queue ≡ false) (sym home_then) none);
  }

  pub ledger_vsync : LedgerStands table.slots (home_in new) (view_in new) so.actors new.handler
  ledger_vsync =
      subst (λ (h : DeskHome). LedgerStands table.slots h (view_in new) so.actors new.handler) (sym home_then)
      (vsync_stands lease table.slots (home_of before) so.actors (view_of before) (view_of new.actor_set.desk) old.handler new.handler vsync_in ledger)
