-- A player's vsync, part by part.
use Rattle.std.proofs.Common.{◌≡◌, ℕ, ◌==◌, true, List, [], ◌∷◌, map, Result, Ok, Err, refl, ap, sym, ◌∙◌, subst, inl, inr}
use Rattle.std.specs.Prelude.{Contains, IfOk, OnOk}
use Rattle.std.specs.List.{All, AllZip, list_any}
use Rattle.std.proofs.lemmas.Bool.{cases_Bool}
use Rattle.std.proofs.lemmas.List.Elements.{All-cons, All-head, All-nil, All-tail}
use Rattle.atomic_table.specs.Seated.{TableId}
use Rattle.sf_base.specs.declared.memory.NoMemory.{NoMemory}
use Rattle.sf_base.specs.declared.fences.Seen.{Seen}
use Rattle.sf_base.specs.declared.ids.QueueId.{QueueId}
use Rattle.sf_play_report.specs.sf_layer.declared.shown.Shown.{Shown}
use Rattle.sf_play_report.specs.sf_surface.Histories.{Made}
use Rattle.sf_play_report.specs.sf_surface.Objects.{ObjectOf, mark_of}
use Rattle.sf_play_report.specs.sf_surface.Tokens.{Issued, ReadLeaseOf}
use Rattle.sf_play_report.specs.sf_surface.declared.mark.QueueMark.{QueueMark}
use Rattle.sf_play_report.specs.sf_token.Arrivals.{Calls, waiting}
use Rattle.sf_play_report.specs.sf_token.Pending.{Arrival, IsRisingFrom}
use Rattle.sf_play_report.specs.sf_turns.Views.{SeatView}
use Rattle.sf_play_report.specs.sf_txn.declared.lease.Lease.{Ghosts}
use Rattle.sf_play_report.specs.sf_commit.Handlers.{Decides, HandlerOf, last_of}
use Rattle.sf_play_report.specs.sf_commit.Leases.{IsReleaseOf}
use Rattle.sf_play_report.specs.sf_commit.OnLayers.{OnLayer}
use Rattle.sf_play_report.specs.sf_commit.Releases.{ReleaseOf, CommittedOf}
use Rattle.sf_script_scene.specs.Scene.{SceneValue}
use Rattle.sf_play_report.specs.sf_actor.Desks.{DeskHome, has_queue}
use Rattle.sf_play_report.specs.sf_actor.Plain.{PlainOf, calls_among, home_of, taken_in, view_of}
use Rattle.law_rights.specs.sf_actor_set.ActorSets.{ActorSetOf}
use Rattle.law_rights.specs.sf_actor_set.Compositing.{GivesFrameBack, OnlyDesk, Takes}
use Rattle.sf_play_report.proofs.law_played_lemmas.Members.{has_none}
use Rattle.law_rights.specs.Standing.{GiveAll}
use Rattle.sf_play.specs.ActorDesk.{GivesBack}
use Rattle.sf_play.specs.Players.{PlayOf, SoFar, Stands}
use Rattle.sf_play.specs.VsyncOver.{InTurn}
use Rattle.sf_play.proofs.VsyncKeepsPlayer.{arrived_lent, arrived_rises, only_twice}
use Rattle.sf_play.proofs.HandlerLeases.{IsOnLent, OfFrames, gone_lent}

module _ {B : Type 0} where
  -- a call that gave a frame back
  pub gives_back : (table : TableId) (number : ℕ) (release : ReleaseOf ReadLeaseOf) (old new : ActorSetOf B) (result : Result (Unit {0}) NoMemory) → IfOk result (λ done. GivesFrameBack old.desk new.desk number release)
      → OnlyDesk table (taken_in old.desk.arrivals) old new → OnOk result (GivesBack table number release old new)
  gives_back table number release old new (Ok done) made only = record { gives = record { reply = made.0; made = made.1 }; only = only }
  gives_back table number release old new (Err e) made only = tt

  -- frames that went back, one after another
  pub record Gave (table : TableId) (number : ℕ) (releases : List (ReleaseOf ReadLeaseOf)) (old new : ActorSetOf B) : Type 0 where
    pub gives : GiveAll (home_of old.desk) number releases (view_of old.desk) (view_of new.desk)
    pub only : OnlyDesk table (taken_in old.desk.arrivals) old new

  pub gave_all : (table : TableId) (number : ℕ) (releases : List (ReleaseOf ReadLeaseOf)) (old new : ActorSetOf B) → InTurn (GivesBack table number) releases old new → Gave table number releases old new
  gave_all table number [] old new same = subst (Gave table number [] old) (sym same) (record { gives = refl; only = record { same = refl; home = refl; keep = λ ofs keep. keep } })
  gave_all table number (release ∷ later) old new gives =
      let mid = gives.0 in
      let one = gives.1 in
      let rest = gave_all table number later mid new gives.2 in
      let home : home_of mid.desk ≡ home_of old.desk = one.only.home in
      record {
        gives = (view_of mid.desk, one.gives, subst (λ (h : DeskHome). GiveAll h number later (view_of mid.desk) (view_of new.desk)) home rest.gives);
        only = subst (λ (taken : ℕ). OnlyDesk table taken old new) (ap (λ (h : DeskHome). h.taken) home) (only_twice table (taken_in old.desk.arrivals) (taken_in mid.desk.arrivals) old mid new one.only rest.only);
      }

  -- a desk has each queue that was called
  called_there : (queues : List (ObjectOf B)) (queue : ℕ) (made : Made B) → Contains (calls_among queues queue) made → list_any (λ (mark : QueueMark). mark.queue.0 == queue) (map mark_of queues) ≡ true
  called_there [] queue made there = has_none made there
  called_there (object ∷ objects) queue made there = elim (cases_Bool (object.queue.number.0 == queue)) [
    | inl met ↦ rw met refl
    | inr unmet ↦ rw unmet (called_there objects queue made (rw unmet at there))
  ]

  module _ (table : TableId) (scene : SceneValue) (so : SoFar B) (play : PlayOf B) (stands : Stands table scene so play) (looked : ActorSetOf B) (times : looked.desk ≡ record play.actor_set.desk { times = looked.desk.times })
      (arrived : List (Arrival ReadLeaseOf)) (took : Calls ReadLeaseOf SeatView ReadLeaseOf Issued) (takes : Takes looked.desk.arrivals took arrived) where
    all_taken : arrived ≡ waiting play.actor_set.desk.arrivals
    all_taken = takes.all ∙ ap (λ (d : PlainOf B). waiting d.arrivals) times

    -- what arrived rises behind what was taken before
    pub rises_then : IsRisingFrom play.handler.last arrived (last_of play.handler.last arrived)
    rises_then = arrived_rises table scene so play stands arrived all_taken

    module _ {R C : Type 0} (lease : Ghosts ReadLeaseOf SeatView R C) (handler : HandlerOf ReadLeaseOf) (eye after : SeatView) (seen : Seen) (expected : ℕ) (told : CommittedOf ReadLeaseOf)
        (d : Decides lease play.handler eye arrived seen expected told handler after) (frames : OfFrames lease) where
      goes : All (IsOnLent (view_of play.actor_set.desk)) d.end.stage.gone
      goes = gone_lent lease frames (view_of play.actor_set.desk) play.handler handler eye after arrived seen expected told d stands.leases.pending (arrived_lent table scene so play stands arrived all_taken) stands.leases.on

      -- the desk has the queue of each frame that goes
      releases_there : (gone : List (OnLayer ReadLeaseOf)) (releases : List (ReleaseOf ReadLeaseOf)) → AllZip (IsReleaseOf lease) gone releases → All (IsOnLent (view_of play.actor_set.desk)) gone
          → All (λ (r : ReleaseOf ReadLeaseOf). has_queue (home_of play.actor_set.desk) r.queue.0 ≡ true) releases
      releases_there [] [] zip lent = All-nil (λ (r : ReleaseOf ReadLeaseOf). has_queue (home_of play.actor_set.desk) r.queue.0 ≡ true)
      releases_there [] (release ∷ releases) zip lent = absurd zip
      releases_there (on ∷ gone) [] zip lent = absurd zip
      releases_there (on ∷ gone) (release ∷ releases) zip lent =
          let is = All-head (IsOnLent (view_of play.actor_set.desk)) on gone lent in
          let same : release.queue.0 ≡ on.lease.queue.0 = ap (λ (q : QueueId). q.0) zip.0.queue ∙ ap (λ (s : Shown). s.queue.0) is.shows in
          All-cons (λ (r : ReleaseOf ReadLeaseOf). has_queue (home_of play.actor_set.desk) r.queue.0 ≡ true) release releases
          (subst (λ (q : ℕ). has_queue (home_of play.actor_set.desk) q ≡ true) (sym same) (called_there play.actor_set.desk.queues on.lease.queue.0 is.lent.made is.lent.there))
          (releases_there gone releases zip.1 (All-tail (IsOnLent (view_of play.actor_set.desk)) on gone lent))

      pub queues_there : (taken : ℕ) (home : DeskHome) → home ≡ record (home_of play.actor_set.desk) { taken = taken } → All (λ (r : ReleaseOf ReadLeaseOf). has_queue home r.queue.0 ≡ true) told.releases
      queues_there taken home same = subst (λ (h : DeskHome). All (λ (r : ReleaseOf ReadLeaseOf). has_queue h r.queue.0 ≡ true) told.releases) (sym same) (releases_there d.end.stage.gone told.releases d.settled.releases goes)
