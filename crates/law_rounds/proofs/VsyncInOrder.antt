-- What a vsync of a player leaves in one order.
use Rattle.std.proofs.Common.{◌≡◌, ℕ, zero, suc, ◌+◌, ◌≤◌, Bool, true, List, [], ◌∷◌, ◌++◌, length, map, Contains, refl, ap, sym, ◌∙◌, subst, arith}
use Rattle.std.proofs.lemmas.List.{append-nil, length-map}
use Rattle.std.proofs.lemmas.List.Elements.{All-nil}
use Rattle.atomic_table.specs.Seated.{TableId}
use Rattle.sf_base.specs.declared.fences.Seen.{Seen}
use Rattle.law_order.specs.Order.{Happened}
use Rattle.law_rounds.specs.OrderSoFar.{IsOrderedSoFar}
use Rattle.law_rounds.specs.Shown.{come_to, shown_of}
use Rattle.law_rounds.proofs.CallInOrder.{adds_both, adds_none, adds_one}
use Rattle.law_rounds.proofs.OrderSoFar.{still_ordered, vsync_ordered}
use Rattle.law_rounds.proofs.StepInOrder.{AddsCalls, does_more}
use Rattle.sf_play.specs.sf_actor_set.ActorSets.{ActorSetOf}
use Rattle.sf_play.specs.sf_actor_set.sf_actor_steps.declared.actor.Actor.{Actor}
use Rattle.sf_play.specs.sf_actor.Desks.{DeskHome, DeskView, mark_among}
use Rattle.sf_play.specs.sf_actor.Known.{plain_arrival}
use Rattle.sf_play.specs.sf_actor.Makers.{Run}
use Rattle.sf_play.specs.sf_actor.Names.{FrameOf}
use Rattle.sf_play.specs.sf_actor.Plain.{PlainOf, home_of, view_of}
use Rattle.sf_play.specs.sf_actor.Tries.{ActorOf}
use Rattle.sf_play.specs.sf_actor.sf_surface.Histories.{told as told_calls}
use Rattle.sf_play.specs.sf_actor.sf_surface.Tokens.{ReadLeaseOf}
use Rattle.sf_play.specs.sf_actor.sf_surface.declared.mark.QueueMark.{QueueMark}
use Rattle.sf_play.specs.sf_actor.sf_turns.Views.{SeatView}
use Rattle.sf_play.specs.sf_commit.Releases.{CommittedOf, ReleaseOf}
use Rattle.sf_play.specs.sf_record.declared.event.VsyncRecords.{VsyncRecords}
use Rattle.sf_play.specs.sf_record.declared.record.CommitRecord.{CommitRecord}
use Rattle.sf_play.specs.sf_script_scene.Scene.{SceneValue}
use Rattle.sf_play.specs.sf_token.Pending.{Arrival}
use Rattle.sf_play.specs.sf_play_report.sf_txn.declared.lease.Lease.{Ghosts}
use Rattle.sf_play.specs.law_played.Actors.{arrivals_of, run_of, trace_among}
use Rattle.sf_play.specs.law_played.Arrivals.{entry_of}
use Rattle.sf_play.specs.law_rights.Standing.{GiveAll}
use Rattle.sf_play.specs.Players.{PlayOf, home_in, view_in}
use Rattle.sf_play.specs.Vsyncing.{MakesVsync}

module _ {B : Type 0} where
  -- the run over queues with these marks
  abbrev run_with : List QueueMark → List (ActorOf B) → DeskView B → Run
  run_with marks ofs view = record { trace = trace_among ofs; calls = λ queue. told_calls (mark_among marks queue) (view.calls queue) }

  -- frames that go back are calls of the compositor, in the step of their vsync
  all_given : (home : DeskHome) (exact : home.is_exact ≡ true) (number : ℕ) (ofs : List (ActorOf B)) (releases : List (ReleaseOf ReadLeaseOf)) (old new : DeskView B) → GiveAll home number releases old new
      → AddsCalls 0 number (run_of ofs home old) (run_of ofs home new)
  all_given home exact number ofs [] old new gives =
      adds_none 0 number (run_of ofs home old) (run_of ofs home new) (λ queue. ap (λ (v : DeskView B). told_calls (mark_among home.marks queue) (v.calls queue)) gives)
  all_given home exact number ofs (release ∷ later) old new (mid, one, rest) =
      adds_both 0 number (run_of ofs home old) (run_of ofs home mid) (run_of ofs home new) (adds_one home old mid 0 release.queue.0 number _ one.reply exact one.made ofs ofs)
      (all_given home exact number ofs later mid new rest)

  arrivals_stay : (home : DeskHome) (number : ℕ) (releases : List (ReleaseOf ReadLeaseOf)) (old new : DeskView B) → GiveAll home number releases old new → new.arrivals ≡ old.arrivals
  arrivals_stay home number [] old new gives = ap (λ (v : DeskView B). v.arrivals) gives
  arrivals_stay home number (release ∷ later) old new (mid, one, rest) = arrivals_stay home number later mid new rest ∙ ap (λ (v : DeskView B). v.arrivals) one.made.changes.same

module _ {B : Type 0} {R C : Type 0} (lease : Ghosts ReadLeaseOf SeatView R C) (table : TableId) (old new : PlayOf B) (seen : Seen) (told : CommittedOf ReadLeaseOf) (makes : MakesVsync lease table old seen told new) where
  abbrev desk : PlainOf B
  desk = makes.decided.desk

  abbrev marks : List QueueMark
  marks = (home_in old).marks

  marks_decided : (home_of desk).marks ≡ marks
  marks_decided =
      ap (λ (h : DeskHome). h.marks) makes.only_decides.home ∙ ap (λ (h : DeskHome). h.marks) makes.only_takes.home ∙ ap (λ (h : DeskHome). h.marks) makes.only_looks.home

  marks_new : (home_in new).marks ≡ marks
  marks_new = ap (λ (h : DeskHome). h.marks) makes.only_gives.home ∙ marks_decided

  calls_decided : (queue : ℕ) → (view_of desk).calls queue ≡ (view_in old).calls queue
  calls_decided queue =
      ap (λ (d : PlainOf B). (view_of d).calls queue) makes.turns ∙ ap (λ (d : PlainOf B). (view_of d).calls queue) makes.arrivals ∙ ap (λ (d : PlainOf B). (view_of d).calls queue) makes.times

  arrivals_decided : (view_of desk).arrivals ≡ (view_in old).arrivals
  arrivals_decided = ap (λ (d : PlainOf B). (view_of d).arrivals) makes.turns ∙ makes.takes.stays ∙ ap (λ (d : PlainOf B). (view_of d).arrivals) makes.times

  pub arrivals_new : (view_in new).arrivals ≡ (view_in old).arrivals
  arrivals_new = arrivals_stay (home_of desk) (old.vsyncs + 1) told.releases (view_of desk) (view_in new) makes.gives ∙ arrivals_decided

  actors_new : new.actor_set.actors ≡ old.actor_set.actors
  actors_new =
      ap (λ (s : ActorSetOf B). s.actors) makes.only_gives.same ∙ ap (λ (s : ActorSetOf B). s.actors) makes.only_decides.same ∙ ap (λ (s : ActorSetOf B). s.actors) makes.only_takes.same
      ∙ ap (λ (s : ActorSetOf B). s.actors) makes.only_looks.same

  vsyncs_new : new.vsyncs ≡ old.vsyncs + 1
  vsyncs_new = ap (λ (p : PlayOf B). p.vsyncs) makes.rest

  module _ (scene : SceneValue) (ofs : List (ActorOf B)) (reports shown : List VsyncRecords) (numbered : (at : VsyncRecords) → Contains shown at → at.number ≡ old.vsyncs + 1)
      (commits : (at : VsyncRecords) (commit : CommitRecord) → Contains shown at → Contains at.commits commit → commit.arrival ≤ length (arrivals_of (view_in old))) where
    given : AddsCalls 0 (old.vsyncs + 1) (run_with marks ofs (view_of desk)) (run_with marks ofs (view_in new))
    given = subst (λ (ms : List QueueMark). AddsCalls 0 (old.vsyncs + 1) (run_with ms ofs (view_of desk)) (run_with ms ofs (view_in new))) marks_decided
        (all_given (home_of desk) refl (old.vsyncs + 1) ofs told.releases (view_of desk) (view_in new) makes.gives)

    adds : AddsCalls 0 (old.vsyncs + 1) (run_with marks ofs (view_in old)) (run_with marks ofs (view_in new))
    adds = adds_both 0 (old.vsyncs + 1) (run_with marks ofs (view_in old)) (run_with marks ofs (view_of desk)) (run_with marks ofs (view_in new))
        (adds_none 0 (old.vsyncs + 1) (run_with marks ofs (view_in old)) (run_with marks ofs (view_of desk)) (λ queue. ap (told_calls (mark_among marks queue)) (calls_decided queue))) given

    abbrev then : ℕ → ℕ
    then = come_to old.vsyncs old.actor_set.actors

    abbrev later : ℕ → ℕ
    later = come_to (old.vsyncs + 1) old.actor_set.actors

    further : (of : ℕ) → then of ≤ later of
    further zero = omega arith
    further (suc of) = omega arith

    abbrev before : Happened
    before = shown_of scene (run_with marks ofs (view_in old)) (arrivals_of (view_in old)) reports

    abbrev made : Happened
    made = shown_of scene (run_with marks ofs (view_in old)) (arrivals_of (view_in old)) (reports ++ shown)

    abbrev after : List (Arrival FrameOf) → Happened
    after arrivals = shown_of scene (run_with marks ofs (view_in new)) arrivals (reports ++ shown)

    many : length before.arrived ≡ length (arrivals_of (view_in old))
    many = length-map (arrivals_of (view_in old)) entry_of

    made_in_order : (tells : Bool) → IsOrderedSoFar tells then before → IsOrderedSoFar tells later made
    made_in_order tells so = vsync_ordered tells then later before made so (record {
      histories = refl;
      arrived = refl;
      shown = shown;
      vsyncs = refl;
      numbered = numbered;
      commits = λ at commit there has. let low = commits at commit there has in let long = many in omega (arith, low, long);
    }) (record { now = refl; rises = further })

    given_in_order : (tells : Bool) → IsOrderedSoFar tells later made → IsOrderedSoFar tells later (after (arrivals_of (view_in old) ++ []))
    given_in_order tells so =
        still_ordered tells 0 (old.vsyncs + 1) later later made (after (arrivals_of (view_in old) ++ [])) so
        (does_more scene 0 (old.vsyncs + 1) (run_with marks ofs (view_in old)) (run_with marks ofs (view_in new)) (arrivals_of (view_in old)) [] (reports ++ shown) adds (All-nil _))
        (record { now = refl; rises = λ of. omega arith; vsyncs = refl })

    pub vsync_in_order : (tells : Bool) (now : List (ActorOf B)) → IsOrderedSoFar tells then (shown_of scene (run_of ofs (home_in old) (view_in old)) (arrivals_of (view_in old)) reports)
        → IsOrderedSoFar tells (come_to new.vsyncs new.actor_set.actors) (shown_of scene (run_of now (home_in new) (view_in new)) (arrivals_of (view_in new)) (reports ++ shown))
    vsync_in_order tells now so =
        subst (λ (ms : List QueueMark). IsOrderedSoFar tells (come_to new.vsyncs new.actor_set.actors) (shown_of scene (run_with ms now (view_in new)) (arrivals_of (view_in new)) (reports ++ shown))) (sym marks_new)
        (subst (λ (arrivals : List (Arrival FrameOf)). IsOrderedSoFar tells (come_to new.vsyncs new.actor_set.actors) (after arrivals))
        (append-nil (arrivals_of (view_in old)) ∙ sym (ap (map plain_arrival) arrivals_new))
        (subst (λ (actors : List (Actor B)). IsOrderedSoFar tells (come_to new.vsyncs actors) (after (arrivals_of (view_in old) ++ []))) (sym actors_new)
        (subst (λ (n : ℕ). IsOrderedSoFar tells (come_to n old.actor_set.actors) (after (arrivals_of (view_in old) ++ []))) (sym vsyncs_new)
        (given_in_order tells (made_in_order tells so)))))
