-- Frames that go back: the calls of the compositor are the releases of its vsyncs, and no other.
use Rattle.std.proofs.Common.{◌≡◌, ℕ, ◌==◌, Bool, true, false, List, [], ◌∷◌, ◌++◌, map, refl, ap, sym, ◌∙◌, subst, inl, inr}
use Rattle.std.specs.Prelude.{Contains}
use Rattle.std.specs.List.{All, AllZip}
use Rattle.std.proofs.lemmas.Bool.{cases_Bool, eq-eqb, eqb-true, false≢true}
use Rattle.std.proofs.lemmas.List.{append-nil, append_assoc}
use Rattle.std.proofs.lemmas.List.Elements.{All-head, All-tail}
use Rattle.sf_base.specs.declared.ids.QueueId.{QueueId}
use Rattle.sf_play_report.specs.sf_calls.Histories.{entry}
use Rattle.sf_play_report.specs.sf_layer.declared.shown.Shown.{Shown}
use Rattle.sf_play_report.specs.sf_surface.Histories.{Made}
use Rattle.sf_play_report.specs.sf_surface.Reading.{PlainLease, plain_lease}
use Rattle.sf_play_report.specs.sf_surface.Tokens.{ReadLeaseOf}
use Rattle.sf_play_report.specs.sf_surface.declared.call.QCall.TheVariants as call
use Rattle.sf_play_report.specs.sf_turns.Views.{SeatView}
use Rattle.sf_play_report.specs.sf_txn.declared.lease.Lease.{Ghosts}
use Rattle.sf_play_report.specs.sf_commit.Leases.{HandsBack, IsReleaseOf}
use Rattle.sf_play_report.specs.sf_commit.OnLayers.{OnLayer}
use Rattle.sf_play_report.specs.sf_commit.Releases.{ReleaseOf}
use Rattle.sf_script_scene.specs.Limits.{IsWithinLimits}
use Rattle.sf_script_scene.specs.Scene.{SceneValue}
use Rattle.sf_script_scene.specs.declared.declarations.QueueDecl.{QueueDecl}
use Rattle.sf_play_report.specs.sf_actor.Desks.{DeskHome, DeskView, mark_among}
use Rattle.sf_play_report.specs.sf_actor.Known.{frame_of}
use Rattle.sf_play_report.specs.sf_actor.Names.{FrameOf}
use Rattle.sf_play_report.specs.sf_actor.Tries.{ActorOf}
use Rattle.sf_play_report.specs.sf_record.declared.event.Event.{Event}
use Rattle.sf_play_report.proofs.law_played_lemmas.RunGrowth.{releases_frame}
use Rattle.sf_play_report.proofs.law_played_lemmas.LeaseLemmas.{plain_frame}
use Rattle.sf_play_report.proofs.law_played_lemmas.Members.{has_later}
use Rattle.sf_play_report.specs.law_played.Actors.{mark_declared}
use Rattle.sf_play_report.specs.law_played.Framing.{framed_on}
use Rattle.sf_play_report.specs.law_played.Histories.{Released}
use Rattle.sf_play_report.specs.law_played.Telling.{TellRun}
use Rattle.law_rights.specs.Standing.{GiveAll, GivesOne}
use Rattle.sf_play.proofs.HandlerLeases.{IsOnLent, OfFrames}

module _ {B : Type 0} where
  module _ (home : DeskHome) (exact : home.is_exact ≡ true) (number : ℕ) where
    -- the calls on a queue, where one frame went back
    given_here : (release : ReleaseOf ReadLeaseOf) (old new : DeskView B) (one : GivesOne home number release old new) (queue : ℕ) → (queue == release.queue.0) ≡ true
        → new.calls queue ≡ entry 0 (number, call.Release release.lease release.fence) one.reply ∷ old.calls queue
    given_here release old new one queue met =
        let same = eqb-true queue release.queue.0 met in
        subst (λ (q : ℕ). new.calls q ≡ entry 0 (number, call.Release release.lease release.fence) one.reply ∷ old.calls q) (sym same)
        (one.made.newest ∙ ap (λ (cs : List (Made B)). entry 0 (number, call.Release release.lease release.fence) one.reply ∷ cs) (one.made.alone exact))

    given_else : (release : ReleaseOf ReadLeaseOf) (old new : DeskView B) → GivesOne home number release old new → (queue : ℕ) → (queue == release.queue.0) ≡ false → new.calls queue ≡ old.calls queue
    given_else release old new one queue unmet = one.made.changes.others queue (λ same. false≢true (sym unmet ∙ eq-eqb queue release.queue.0 same))

    -- calls are only added
    one_grows : (release : ReleaseOf ReadLeaseOf) (old new : DeskView B) → GivesOne home number release old new → (queue : ℕ) (made : Made B) → Contains (old.calls queue) made → Contains (new.calls queue) made
    one_grows release old new one queue made there = elim (cases_Bool (queue == release.queue.0)) [
      | inl met ↦ subst (λ (cs : List (Made B)). Contains cs made) (sym (given_here release old new one queue met)) (has_later _ made (old.calls queue) there)
      | inr unmet ↦ subst (λ (cs : List (Made B)). Contains cs made) (sym (given_else release old new one queue unmet)) there
    ]

    pub gives_grow : (releases : List (ReleaseOf ReadLeaseOf)) (old new : DeskView B) → GiveAll home number releases old new → (queue : ℕ) (made : Made B) → Contains (old.calls queue) made → Contains (new.calls queue) made
    gives_grow [] old new gives queue made there = subst (λ (v : DeskView B). Contains (v.calls queue) made) (sym gives) there
    gives_grow (release ∷ later) old new gives queue made there = gives_grow later gives.0 new gives.2 queue made (one_grows release old gives.0 gives.1 queue made there)

    -- nothing else is learnt
    pub gives_same : (releases : List (ReleaseOf ReadLeaseOf)) (old new : DeskView B) → GiveAll home number releases old new → new ≡ record old { calls = new.calls; locked = new.locked }
    gives_same [] old new gives = ap (λ (v : DeskView B). record v { calls = new.calls; locked = new.locked }) gives
    gives_same (release ∷ later) old new gives =
        gives_same later gives.0 new gives.2 ∙ ap (λ (v : DeskView B). record v { calls = new.calls; locked = new.locked }) gives.1.made.changes.same

    module _ {R C : Type 0} (lease : Ghosts ReadLeaseOf SeatView R C) (frames : OfFrames lease) (lent : DeskView B) (scene : SceneValue) (ofs : List (ActorOf B)) (events : List Event) (limits : IsWithinLimits scene)
        (marks : All (λ (declared : QueueDecl). mark_among home.marks declared.number ≡ mark_declared declared) scene.queues) where
      -- the lease that goes back is that of the frame, but for its right
      handed_plain : (is_read : Bool) (l back : ReadLeaseOf) → HandsBack lease is_read l back → plain_lease back ≡ plain_lease l
      handed_plain true l back handed = frames.plain back l handed.0
      handed_plain false l back handed = ap plain_lease handed

      one_told : (on : OnLayer ReadLeaseOf) (release : ReleaseOf ReadLeaseOf) (old new : DeskView B) (released : List Released) → IsReleaseOf lease on release → IsOnLent lent on → GivesOne home number release old new
          → TellRun scene ofs home old events released → TellRun scene ofs home new events (released ++ record { vsync = number; on = framed_on frame_of on } ∷ [])
      one_told on release old new released is shows one tell =
          let same = handed_plain on.is_read on.lease release.lease is.handed in
          let own : release.lease.queue.0 ≡ release.queue.0 = ap (λ (l : PlainLease). l.queue.0) same ∙ sym (ap (λ (q : QueueId). q.0) is.queue ∙ ap (λ (s : Shown). s.queue.0) shows.shows) in
          releases_frame scene ofs home old new events released release.queue.0 number release.lease release.fence one.reply (record { vsync = number; on = framed_on frame_of on }) limits exact marks own
          (record { at = refl; leased = plain_frame on.lease release.lease (sym same); fenced = sym is.fence }) one.made tell

      -- the frames that go back are told as released
      pub gives_told : (gone : List (OnLayer ReadLeaseOf)) (releases : List (ReleaseOf ReadLeaseOf)) (old new : DeskView B) (released : List Released) → AllZip (IsReleaseOf lease) gone releases → All (IsOnLent lent) gone
          → GiveAll home number releases old new → TellRun scene ofs home old events released
          → TellRun scene ofs home new events (released ++ map (λ (on : OnLayer FrameOf). record { vsync = number; on = on }) (map (framed_on frame_of) gone))
      gives_told [] [] old new released are shows gives tell = subst (λ (rs : List Released). TellRun scene ofs home new events rs) (sym (append-nil released)) (subst (λ (v : DeskView B). TellRun scene ofs home v events released) (sym gives) tell)
      gives_told [] (release ∷ later) old new released are shows gives tell = absurd are
      gives_told (on ∷ gone) [] old new released are shows gives tell = absurd are
      gives_told (on ∷ gone) (release ∷ later) old new released are shows gives tell =
          let one : Released = record { vsync = number; on = framed_on frame_of on } in
          let first = one_told on release old gives.0 released are.0 (All-head (IsOnLent lent) on gone shows) gives.1 tell in
          let rest = gives_told gone later gives.0 new (released ++ one ∷ []) are.1 (All-tail (IsOnLent lent) on gone shows) gives.2 first in
          subst (λ (rs : List Released). TellRun scene ofs home new events rs) (append_assoc released (one ∷ []) (map (λ (o : OnLayer FrameOf). record { vsync = number; on = o }) (map (framed_on frame_of) gone))) rest
