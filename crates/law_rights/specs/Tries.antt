-- An actor's try of a step, as a change of a state.
use Rattle.std.specs.Prelude.{◌≡◌, ℕ, ◌+◌, ◌++◌, [], false, true, List, length, Contains, Some, slice_get, slice_set}
use Rattle.sf_actor_set.specs.sf_picture.declared.picture.Picture.{Picture}
use Rattle.sf_actor_set.specs.sf_script_scene.Ranges.{IsStep}
use Rattle.sf_actor_set.specs.sf_script_scene.declared.step.Step.{Step}
use Rattle.sf_actor_set.specs.sf_surface.declared.call.QCall.{QCall}
use Rattle.sf_actor_set.specs.sf_surface.declared.call.QReply.{QReply}
use Rattle.sf_actor_set.specs.sf_surface.Histories.{told_reply}
use Rattle.sf_actor_set.specs.sf_surface.Tokens.{ReadLeaseOf}
use Rattle.sf_actor_set.specs.sf_token.Pending.{Arrival}
use Rattle.sf_actor_set.specs.sf_actor.declared.done.Answered.{Answered}
use Rattle.sf_actor_set.specs.sf_actor.declared.done.Answered.TheVariants as answered
use Rattle.sf_actor_set.specs.sf_actor.declared.done.Done.{Done}
use Rattle.sf_actor_set.specs.sf_actor.Desks.{DeskHome, has_queue, mark_among}
use Rattle.sf_actor_set.specs.sf_actor.Names.{Holdings}
use Rattle.sf_actor_set.specs.sf_actor.Tests.{refusal_of}
use Rattle.sf_actor_set.specs.sf_actor.Tries.{ActorOf}
use Rattle.sf_actor_set.specs.sf_actor.Written as written
use Rattle.sf_actor_set.specs.sf_actor_steps.declared.bindings.Bindings.{Bindings}
use Rattle.sf_actor_set.specs.sf_actor_steps.declared.tried.Tried.{Tried}
use Rattle.sf_actor_set.specs.sf_actor_steps.declared.tried.Tried.TheVariants as tried
use Rattle.sf_actor_set.specs.sf_actor_steps.Acting.{Attempts}
use Rattle.sf_actor_set.specs.sf_actor_steps.Actors.{parts_of}
use Rattle.sf_actor_set.specs.sf_actor_steps.Forming.{permits_of}
use Rattle.sf_actor_set.specs.sf_actor_steps.Bindings.{holdings_of}
use Rattle.law_rights.specs.States.{AreApart, CallsOnce, State, all_buffers}

module _ {B : Type 0} where
  -- what a step answered, as far as it wrote something, by what its try came to: to a call what the queue replied
  abbrev pub AnswersAs : DeskHome → ℕ → ℕ → Step → Holdings → State B → State B → Tried → Answered → Type 0
  AnswersAs home by place s holdings old new (tried.Own status) answer = answer ≡ answered.Own status
  AnswersAs home by place s holdings old new (tried.Sent number) answer = answer ≡ answered.Sent number
  AnswersAs home by place s holdings old new (tried.Called status values) answer =
      (queue : ℕ) (asked : QCall B) (reply : QReply B) → CallsOnce home.marks old.view.calls new.view.calls by queue place asked reply
      → written.written_by holdings s answer ≡ written.written_by holdings s (answered.Called (told_reply (mark_among home.marks queue) (old.view.calls queue) by asked))
  AnswersAs home by place s holdings old new tried.NotYet answer = ⊥

  -- what the trace has written: what it had, and what the step's answer writes, unless it is not done
  abbrev pub WritesTry : DeskHome → ℕ → ℕ → Step → Holdings → State B → State B → List Done → List Done → Tried → Type 0
  WritesTry home by place s holdings old new was is tried.NotYet = written.written_in is ≡ written.written_in was
  WritesTry home by place s holdings old new was is came_to =
      (answer : Answered) × (written.written_in is ≡ written.written_in was ++ written.written_by holdings s answer) × AnswersAs home by place s holdings old new came_to answer

  -- The actor at a place tried its step, and changed alone; all that was sent is on its way; a queue that is not there is not called; and
  -- none of its permits made a buffer before.
  pub record TriesIn (pictures : ℕ → Picture) (home : DeskHome) (place : ℕ) (s : Step) (came_to : Tried) (before after : Bindings B) (old new : State B) : Type 0 where
    pub was : ActorOf B
    pub is : ActorOf B
    pub here : slice_get old.actors place ≡ Some was
    pub actors : new.actors ≡ slice_set old.actors place is
    pub parts_was : was.parts ≡ parts_of before
    pub parts_is : is.parts ≡ parts_of after
    pub writes : WritesTry home before.by.0 (length was.trace + 1) s (holdings_of before) old new was.trace is.trace came_to
    pub wide : length before.names ≡ 32
    pub ranges : IsStep s
    pub exact : home.is_exact ≡ true
    pub apart : AreApart home.marks
    pub marks_old : old.marks ≡ home.marks
    pub marks_new : new.marks ≡ home.marks
    pub not_called : (queue : ℕ) → has_queue home queue ≡ false → new.view.calls queue ≡ []
    pub sends : List (Arrival ReadLeaseOf)
    pub sent : new.view.arrivals ≡ old.view.arrivals ++ sends
    pub waiting : new.waiting ≡ old.waiting ++ sends
    pub on : new.on ≡ old.on
    pub unmade : (number : ℕ) → Contains (permits_of before) number → Contains (all_buffers old.marks old.view.calls) number → ⊥
    pub attempts : Attempts (refusal_of pictures (holdings_of before) s) pictures home before.by.0 (length was.trace + 1) s before after old.view new.view came_to
