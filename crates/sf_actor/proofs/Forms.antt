-- What an actor keeps where a step of a plain form is done: a step that an own test refuses, and one that makes a call with no
-- token and no permit.
use Rattle.std.proofs.Common.{◌≡◌, ℕ, ◌+◌, ◌==◌, false, List, [], length, inl, inr, arith, ap, ◌∙◌, sym, refl, subst, Option, Some, None}
use Rattle.std.specs.Prelude.{Contains}
use Rattle.std.proofs.lemmas.Bool.{cases_Bool, false≢true}
use Rattle.std.proofs.lemmas.List.{append-nil}
use Rattle.sf_base.specs.Fences.{Fence, IsSignalled, no_points}
use Rattle.sf_base.specs.declared.fences.Seen.{Seen}
use Rattle.sf_script_scene.specs.sf_picture.declared.picture.Picture.{Picture}
use Rattle.sf_script_scene.specs.declared.step.Step.{Step}
use Rattle.sf_surface.specs.sf_slots.declared.calls.PlainReply.{PlainReply}
use Rattle.sf_surface.specs.Hands.{permit_of}
use Rattle.sf_surface.specs.Tokens.{EndingOf}
use Rattle.sf_surface.specs.sf_turns.Views.{PermitView}
use Rattle.sf_actor.specs.declared.done.Answered.TheVariants as answered
use Rattle.sf_actor.specs.declared.done.Done.{Done}
use Rattle.sf_actor.specs.Asking.{Asked, call_of, overtaken_by}
use Rattle.sf_actor.specs.Draws.{entered_at}
use Rattle.sf_actor.specs.Known.{Call, Rise, Share}
use Rattle.sf_actor.specs.Names.{Holdings}
use Rattle.sf_actor.specs.Points.{detached_fence, shown_by, shown_next, waited_fence}
use Rattle.sf_actor.specs.Rights.{EndsIn, IsFrom, MadeWith, QueuesPicture, brought_turn, made_with}
use Rattle.sf_actor.specs.Steps.{filled_by, holdings_next, holdings_with, sent_by, used_by, was_done}
use Rattle.sf_actor.specs.Tests.{refusal_of}
use Rattle.sf_actor.specs.Traces.{AnswersCall, AnswersTests, DoneAt, HasNotWaited, IsAnswered, IsPassed, PassesFence, since_next, since_with, source_in}
use Rattle.sf_actor.specs.Tries.{ActorKept, ActorOf, next_step, past_of}
use Rattle.sf_actor.specs.Written.{FrameNumber, paid_at, signal_of}
use Rattle.sf_actor.proofs.TraceGrowth.{at_end}
use Rattle.sf_actor.proofs.GoingOn.{signalled_on}
use Rattle.sf_actor.proofs.CallShare.{CallsOnce, OneMore, call_adds, joined, only, only_one}
use Rattle.sf_actor.proofs.StepKeepsActor.{CallsNone, actor_with, none_adds, own_unmade, stays, stepped}
use Rattle.sf_actor.proofs.SignalledFences.{merged_reached, none_reached}

-- no signal is made, no owing is paid, and no pixels are entered
pub record IsQuiet (at : DoneAt) : Type 0 where
  pub signals : signal_of at.done.step ≡ []
  pub pays : paid_at at ≡ []
  pub enters : entered_at at ≡ None
  pub shows : shown_by at.past.holdings at.done.step at.done.answered ≡ no_points

-- a step that is refused moves nothing
refused_holds : (holdings : Holdings) (s : Step) (status : ℕ) → (status == 0) ≡ false → holdings_next holdings (record { step = s; answered = answered.Own status }) ≡ holdings
unfolding holdings_next
refused_holds holdings s status failed = rw failed refl

-- nor does one that moves nothing where it is done
pub plain_holds : (holdings : Holdings) (done : Done) → holdings_with holdings done.step done.answered ≡ holdings → holdings_next holdings done ≡ holdings
unfolding holdings_next
plain_holds holdings done same = elim (cases_Bool (was_done done.answered)) [
  | inl met ↦ rw met same
  | inr unmet ↦ rw unmet refl
]

pub plain_since : (since : List ℕ) (place : ℕ) (done : Done) → filled_by done.step ≡ None → since_next since place done ≡ since
plain_since since place done none = elim (cases_Bool (was_done done.answered)) [
  | inl met ↦ rw met (ap (λ (name : Option ℕ). since_with since name place) none)
  | inr unmet ↦ rw unmet refl
]

-- a step that no own test and no fence stops is answered by its call
pub answered_by_call : (pictures : ℕ → Picture) (values : Seen) (at : DoneAt) (asked : Asked) (told : PlainReply) → refusal_of pictures at.past.holdings at.done.step ≡ None → detached_fence at.past.holdings at.done.step ≡ None → waited_fence at.past.holdings at.done.step ≡ None → call_of pictures at.past.holdings at.done.step ≡ Some asked → at.done.answered ≡ answered.Called told → HasNotWaited asked told → IsAnswered pictures values at
answered_by_call pictures values at asked told test fence waits asks replied unwaited =
    let past = at.past in
    let s = at.done.step in
    let answer = at.done.answered in
    subst (λ (refusal : Option ℕ). AnswersTests pictures values past s answer refusal) (sym test)
    (subst (λ (f : Option Fence). PassesFence f values past.shown answer (IsPassed (waited_fence past.holdings s) values × AnswersCall (call_of pictures past.holdings s) (sent_by past.holdings s) answer)) (sym fence)
    (subst (λ (f : Option Fence). IsPassed f values) (sym waits) tt, subst (λ (asking : Option Asked). AnswersCall asking (sent_by past.holdings s) answer) (sym asks) (told, replied, unwaited)))

module _ {B : Type 0} where
  -- what was shown stays so, where the step shows nothing
  shown_still : (actor : ActorOf B) (done : Done) (old new : Share B) → shown_by (past_of actor).holdings done.step done.answered ≡ no_points → Rise old.values new.values → IsSignalled (past_of actor).shown old.values → IsSignalled (shown_next (past_of actor).holdings (past_of actor).shown done) new.values
  shown_still actor done old new none rise reached =
      merged_reached (past_of actor).shown (shown_by (past_of actor).holdings done.step done.answered) new.values
      (signalled_on (past_of actor).shown old.values new.values rise reached)
      (subst (λ (fence : Fence). IsSignalled fence new.values) (sym none) (none_reached new.values))

  -- a step that an own test refuses changes nothing
  pub refused_keeps : (pictures : ℕ → Picture) (actor : ActorOf B) (s : Step) (status : ℕ) (share : Share B) → next_step actor ≡ Some s → refusal_of pictures (past_of actor).holdings s ≡ Some status → (status == 0) ≡ false → IsQuiet (at_end actor.trace (record { step = s; answered = answered.Own status })) → ActorKept pictures actor share → ActorKept pictures (stepped actor (record { step = s; answered = answered.Own status }) actor.parts) share
  refused_keeps pictures actor s status share is_next refused failed quiet is =
      let done : Done = record { step = s; answered = answered.Own status } in
      let at = at_end actor.trace done in
      let none : CallsNone pictures actor.trace at [] share share = record {
        unmade = own_unmade at.place status _ _;
        overtakes = rw failed refl;
        answered = subst (λ (test : Option ℕ). AnswersTests pictures share.values at.past s (answered.Own status) test) (sym refused) refl;
        calls = λ queue. refl;
        arrivals = sym (append-nil share.arrivals);
        sent = refl;
        sends = λ k d low. absurd (omega (arith, low));
        values = λ t low high. omega arith;
        signals = λ p there. there;
        signalled = λ p there. absurd (empty (subst (λ (xs : List (ℕ × ℕ)). Contains xs p) quiet.signals there));
        left = λ p there. there;
        counts = λ b. omega arith;
        pays = λ frame there. absurd (empty (subst (λ (xs : List FrameNumber). Contains xs frame) quiet.pays there));
        counted = λ place entered. absurd (no_place place (sym quiet.enters ∙ entered));
        order = λ place entered. absurd (no_place place (sym quiet.enters ∙ entered));
      } in
      actor_with pictures actor done actor.parts share share is_next is (none_adds pictures actor.stock actor.trace at [] share share none)
      (stays pictures actor done share share (λ queue. []) is (record {
        calls = λ queue. sym (append-nil (share.calls queue));
        holdings = refused_holds (past_of actor).holdings s status failed;
        since = rw failed refl;
        reached = shown_still actor done share share quiet.shows (λ t low high. omega arith) is.reached;
        unused = λ number queue made there makes. empty there;
      }))
    where
      empty : {A : Type 0} {x : A} → Contains [] x → ⊥
      empty there = omega (arith, there.1)

      no_place : (place : ℕ) → None ≡ Some place → ⊥
      no_place place e = cc

  -- a step that makes a call with no token and no permit, and that moves nothing
  pub record IsPlainForm (pictures : ℕ → Picture) (actor : ActorOf B) (s : Step) (asked : Asked) (made : Call B) : Type 0 where
    pub test : refusal_of pictures (past_of actor).holdings s ≡ None
    pub fence : detached_fence (past_of actor).holdings s ≡ None
    pub waits : waited_fence (past_of actor).holdings s ≡ None
    pub asks : call_of pictures (past_of actor).holdings s ≡ Some asked
    pub overtakes : overtaken_by (past_of actor).holdings s ≡ []
    pub quiet : IsQuiet (at_end actor.trace (record { step = s; answered = answered.Called made.told.reply }))
    pub holds : holdings_with (past_of actor).holdings s (answered.Called made.told.reply) ≡ (past_of actor).holdings
    pub uses : used_by s ≡ None
    pub fills : filled_by s ≡ None
    pub step : made.told.step ≡ length actor.trace + 1
    pub call : made.told.call ≡ asked.1
    pub unwaited : HasNotWaited asked made.told.reply
    pub token : brought_turn made.made.call.1 ≡ None
    pub permit : permit_of made.made.call.1 ≡ None
    pub shows : QueuesPicture pictures made.made.call.1
    pub ends : made.made.reply.ends ≡ None

  no_permit : (made : Call B) (number : ℕ) → permit_of made.made.call.1 ≡ None → MadeWith number made → ⊥
  no_permit made number none makes =
      false≢true (sym (ap (λ (permit : Option PermitView). made_with permit made.made.reply.spare number) none) ∙ makes)

  pub plain_keeps : (pictures : ℕ → Picture) (actor : ActorOf B) (s : Step) (asked : Asked) (made : Call B) (old new : Share B) → next_step actor ≡ Some s → IsPlainForm pictures actor s asked made → ActorKept pictures actor old → OneMore asked.0.0 made old new → ActorKept pictures (stepped actor (record { step = s; answered = answered.Called made.told.reply }) actor.parts) new
  plain_keeps pictures actor s asked made old new is_next form is more =
      let done : Done = record { step = s; answered = answered.Called made.told.reply } in
      let at = at_end actor.trace done in
      let calls : CallsOnce pictures actor.stock at asked made old new = record {
        asks = form.asks;
        replied = refl;
        answered = answered_by_call pictures new.values at asked made.told.reply form.test form.fence form.waits form.asks refl form.unwaited;
        overtakes = form.overtakes;
        signals = form.quiet.signals;
        pays = form.quiet.pays;
        enters = form.quiet.enters;
        step = form.step;
        call = form.call;
        shows = form.shows;
        brings = subst (λ (name : Option ℕ). IsFrom old.calls (source_in at.past.since name) (brought_turn made.made.call.1)) (sym form.uses) form.token;
        permits = λ permit brings. absurd (some_none permit (sym form.permit ∙ brings));
        new_one = λ number other earlier there mine theirs. no_permit made number form.permit mine;
        ends = subst (λ (ending : Option EndingOf). EndsIn new.left ending) (sym form.ends) tt;
      } in
      let adds = call_adds pictures actor.stock actor.trace at asked made old new calls more in
      actor_with pictures actor done actor.parts old new is_next is adds
      (stays pictures actor done old new (only asked made) is (record {
        calls = joined asked made old new more;
        holdings = plain_holds (past_of actor).holdings done form.holds;
        since = plain_since (past_of actor).since (length actor.trace + 1) done form.fills;
        reached = shown_still actor done old new form.quiet.shows more.values is.reached;
        unused = λ number queue other there makes. no_permit made number form.permit (subst (MadeWith number) (sym (only_one asked made other queue there).0) makes);
      }))
    where
      some_none : (permit : PermitView) → None ≡ Some permit → ⊥
      some_none permit e = cc
