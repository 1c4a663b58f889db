-- What a run means reads of its events the replies to each actor and the vsyncs alone.
use Rattle.std.proofs.Common.{◌≡◌, ℕ, ◌==◌, Bool, true, false, cond, List, [], ◌∷◌, filter, sym, subst, All, ◌∙◌, arith}
use Rattle.std.proofs.lemmas.List.Elements.{All-nil, All-cons, All-filter, All-head, All-tail, All-weaker}
use Rattle.sf_record.specs.declared.event.Event.{Event}
use Rattle.sf_record.specs.declared.record.ReplyRecord.{ReplyRecord}
use Rattle.sf_script_scene.specs.Scene.{SceneValue, has_actor}
use Rattle.sf_script_scene.specs.declared.step.ActorScript.{ActorScript}
use Rattle.sf_commit.specs.sf_token.Pending.{Arrival}
use Rattle.sf_actor.specs.Makers.{Run}
use Rattle.sf_actor.specs.Names.{FrameOf}
use Rattle.sf_record.specs.declared.event.VsyncRecords.{VsyncRecords}
use Rattle.law_played.specs.Buffers.{ShowAsQueued}
use Rattle.law_played.specs.Commits.{CommitInOrder}
use Rattle.law_played.specs.Frames.{ShowImages}
use Rattle.law_played.specs.Histories.{AreHistories, released_in}
use Rattle.law_played.specs.Holds.{AreHeld, uncommitted}
use Rattle.law_played.specs.Played.{FitsWhere, Shows, end_of}
use Rattle.law_played.specs.Replies.{AnswerSteps, replies_due, replies_in, replies_to}
use Rattle.law_played.specs.Runs.{signals_in, written_in}
use Rattle.law_played.specs.Stages.{told_of}
use Rattle.law_played.specs.Vsyncs.{AreVsyncs, commits_in, vsyncs_in}

abbrev is_to : ℕ → ReplyRecord → Bool
is_to actor reply = reply.actor == actor

same_number : (n : ℕ) → (n == n) ≡ true
same_number n = grind arith

module _ (P : ReplyRecord → Type 0) where
  kept_tail : (b : Bool) (r : ReplyRecord) (rs : List ReplyRecord) → All P (cond b (r ∷ rs) rs) → All P rs
  kept_tail true r rs all = All-tail P r rs all
  kept_tail false r rs all = all

  kept_head : (b : Bool) (r : ReplyRecord) (rs : List ReplyRecord) → b ≡ true → All P (cond b (r ∷ rs) rs) → P r
  kept_head b r rs e all = All-head P r rs (subst (λ c. All P (cond c (r ∷ rs) rs)) e all)

  -- what is true of the replies to each actor is true of all replies
  all_of_each : (replies : List ReplyRecord) → ((actor : ℕ) → All P (filter (is_to actor) replies)) → All P replies
  all_of_each [] each = All-nil P
  all_of_each (r ∷ rs) each =
      All-cons P r rs
      (kept_head (is_to r.actor r) r (filter (is_to r.actor) rs) (same_number r.actor) (each r.actor))
      (all_of_each rs (λ actor. kept_tail (is_to actor r) r (filter (is_to actor) rs) (each actor)))

  all_by_actor : (replies others : List ReplyRecord) → ((actor : ℕ) → filter (is_to actor) replies ≡ filter (is_to actor) others) → All P others → All P replies
  all_by_actor replies others same all = all_of_each replies (λ actor. subst (All P) (sym (same actor)) (All-filter (is_to actor) P others all))

pub answered_free : (scene : SceneValue) (run : Run) (old new : List Event) → ((actor : ℕ) → replies_to actor new ≡ replies_to actor old)
    → AnswerSteps scene run old → AnswerSteps scene run new
answered_free scene run old new same answers = record {
  of_each = All-weaker (λ (script : ActorScript). replies_to script.number old ≡ replies_due run script.number)
      (λ (script : ActorScript). replies_to script.number new ≡ replies_due run script.number)
      (λ script e. same script.number ∙ e) scene.actors answers.of_each;
  of_none_else = all_by_actor (λ reply. has_actor scene.actors reply.actor ≡ true) (replies_in new) (replies_in old) same answers.of_none_else;
}

pub order_is_free : (tells : Bool) (scene : SceneValue) (shows : Shows) (run : Run) (arrivals : List (Arrival FrameOf)) (events : List Event)
    → vsyncs_in events ≡ vsyncs_in shows.events → ((actor : ℕ) → replies_to actor events ≡ replies_to actor shows.events)
    → FitsWhere tells scene shows run arrivals → FitsWhere tells scene (record shows { events = events }) run arrivals
order_is_free tells scene shows run arrivals events vsyncs replies fits = record {
  traces = fits.traces;
  turns = fits.turns;
  replies = answered_free scene run shows.events events replies fits.replies;
  arrive = fits.arrive;
  vsyncs = subst (AreVsyncs scene (signals_in scene run)) (sym vsyncs) fits.vsyncs;
  commits = subst (λ (vs : List VsyncRecords). CommitInOrder arrivals (written_in scene run) (commits_in vs) (told_of scene arrivals vs)) (sym vsyncs) fits.commits;
  calls = subst (λ (vs : List VsyncRecords). AreHistories scene run (released_in (told_of scene arrivals vs)) shows.histories) (sym vsyncs) fits.calls;
  frames = subst (λ (vs : List VsyncRecords). ShowImages scene (told_of scene arrivals vs)) (sym vsyncs) fits.frames;
  buffers = subst (λ (vs : List VsyncRecords). ShowAsQueued scene shows.histories (commits_in vs)) (sym vsyncs) fits.buffers;
  holds = subst (λ (vs : List VsyncRecords). AreHeld (end_of scene run (told_of scene arrivals vs)) (uncommitted arrivals (commits_in vs)) shows.held) (sym vsyncs) fits.holds;
  ends = fits.ends;
}
