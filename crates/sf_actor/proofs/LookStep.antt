-- What an actor keeps where it looks at the timelines, and where the look shows that a buffer can't leave its queue yet.
use Rattle.std.proofs.Common.{◌≡◌, ℕ, ◌+◌, ◌-◌, List, [], ◌++◌, inl, inr, arith, ap, ◌∙◌, sym, refl, subst, Option, Some, None}
use Rattle.std.specs.Prelude.{Contains}
use Rattle.std.proofs.lemmas.List.{append-nil}
use Rattle.sf_base.specs.Fences.{Fence, IsSignalled, merged, value_of}
use Rattle.sf_base.specs.Points.{greatest, points_from}
use Rattle.sf_base.specs.declared.fences.Seen.{Seen}
use Rattle.sf_base.proofs.PointLemmas.{greatest-append}
use Rattle.sf_script_scene.specs.sf_picture.declared.picture.Picture.{Picture}
use Rattle.sf_script_scene.specs.declared.step.Step.{Step}
use Rattle.sf_times.specs.declared.protocol.Knows.{Knows}
use Rattle.sf_actor.specs.declared.done.Answered.{Answered}
use Rattle.sf_actor.specs.declared.done.Answered.TheVariants as answered
use Rattle.sf_actor.specs.declared.done.Done.{Done}
use Rattle.sf_actor.specs.Asking.{call_of}
use Rattle.sf_actor.specs.Desks.{ChangesTimes, DeskHome, DeskView, known_of}
use Rattle.sf_actor.specs.Known.{share_of}
use Rattle.sf_actor.specs.Names.{Holdings}
use Rattle.sf_actor.specs.Points.{detached_fence, or_none, reached_by, waited_fence}
use Rattle.sf_actor.specs.Steps.{holdings_next, sent_by}
use Rattle.sf_actor.specs.Tests.{bad_value, refusal_of}
use Rattle.sf_actor.specs.Traces.{AnswersCall, AnswersTests, IsPassed, PassesFence}
use Rattle.sf_actor.specs.Tries.{ActorKept, ActorOf, Sees, next_step, past_of}
use Rattle.sf_actor.specs.Written.{FrameNumber}
use Rattle.sf_actor.proofs.TraceGrowth.{at_end}
use Rattle.sf_actor.proofs.FilledNames.{still_reached}
use Rattle.sf_actor.proofs.Forms.{IsQuiet}
use Rattle.sf_actor.proofs.GoingOn.{actor_on, share_on}
use Rattle.sf_actor.proofs.CallGrowth.{see_goes, value-values}
use Rattle.sf_actor.proofs.StepKeepsActor.{CallsNone, actor_with, none_adds, own_unmade, stays, stepped}
use Rattle.sf_actor.proofs.TimelineSteps.{seen_within}

-- a step that a fence refuses moves nothing
refused_holds : (holdings : Holdings) (s : Step) → holdings_next holdings (record { step = s; answered = answered.Own bad_value }) ≡ holdings
unfolding holdings_next
refused_holds holdings s = refl

-- a fence lets a step pass where it is signalled, if there is one
pub passes : (fence : Option Fence) (values : Seen) (shown : Fence) (answer : Answered) (P : Type 0) → IsSignalled (or_none fence) values → P → PassesFence fence values shown answer P
passes None values shown answer P signalled p = p
passes (Some fence) values shown answer P signalled p = inr (signalled, p)

module _ {B : Type 0} where
  -- what a look showed is reached
  pub seen_reached : (home : DeskHome) (old new : DeskView B) (seen : Seen) (fence : Fence) → Sees home old new seen → IsSignalled fence seen → IsSignalled fence (known_of home new).values
  seen_reached home old new seen fence sees signalled t low high =
      let points = points_from 1 seen.values in
      let a = signalled t low high in
      let b = seen_within seen.values 1 (t - 1) in
      let c : value_of (known_of home new).values.values t ≡ greatest t (old.times.known ++ points) = value-values new.times.known t low high ∙ ap (λ (times : Knows). greatest t times.known) sees.shown in
      let d = greatest-append t old.times.known points in
      let e : greatest (1 + (t - 1)) points ≡ greatest t points = ap (λ (n : ℕ). greatest n points) (omega (arith, low)) in
      omega (arith, a, b, c, d, e)

  -- an actor keeps what it keeps where it looks
  pub look_keeps : (pictures : ℕ → Picture) (actor : ActorOf B) (home : DeskHome) (old new : DeskView B) (seen : Seen) → ChangesTimes old new → Sees home old new seen → ActorKept pictures actor (share_of actor.script.number (known_of home old)) → ActorKept pictures actor (share_of actor.script.number (known_of home new))
  look_keeps pictures actor home old new seen changes sees is =
      let by = actor.script.number in
      actor_on pictures actor (share_of by (known_of home old)) (share_of by (known_of home new))
      (share_on by (known_of home old) (known_of home new) (see_goes by home old new (points_from 1 seen.values) changes sees.shown)) is

  -- a fence that a look shows open was not shown to be signalled by the steps before
  pub open_unshown : (home : DeskHome) (old new : DeskView B) (seen : Seen) (fence shown : Fence) → Sees home old new seen → (IsSignalled fence seen → ⊥) → IsSignalled shown (known_of home old).values → IsSignalled fence (reached_by shown) → ⊥
  open_unshown home old new seen fence shown sees unmet reached under =
      unmet (λ t low high.
      let a = under t low high in
      let b = reached t low high in
      let c = value-values old.times.known t low high in
      let d = sees.known t low high in
      omega (arith, a, b, c, d))

  -- so the step that it refuses keeps what the actor keeps
  pub open_keeps : (pictures : ℕ → Picture) (actor : ActorOf B) (s : Step) (fence : Fence) (home : DeskHome) (old new : DeskView B) (seen : Seen) → next_step actor ≡ Some s → ActorKept pictures actor (share_of actor.script.number (known_of home old)) → refusal_of pictures (past_of actor).holdings s ≡ None → detached_fence (past_of actor).holdings s ≡ Some fence → IsQuiet (at_end actor.trace (record { step = s; answered = answered.Own bad_value })) → ChangesTimes old new → Sees home old new seen → (IsSignalled fence seen → ⊥) → ActorKept pictures (stepped actor (record { step = s; answered = answered.Own bad_value }) actor.parts) (share_of actor.script.number (known_of home new))
  open_keeps pictures actor s fence home old new seen is_next is unrefused fenced quiet changes sees unmet =
      let share = share_of actor.script.number (known_of home new) in
      let before = share_of actor.script.number (known_of home old) in
      let kept = look_keeps pictures actor home old new seen changes sees is in
      let done : Done = record { step = s; answered = answered.Own bad_value } in
      let at = at_end actor.trace done in
      let past = past_of actor in
      let none : CallsNone pictures actor.trace at [] share share = record {
        unmade = own_unmade at.place bad_value _ _;
        overtakes = refl;
        answered =
            subst (λ (test : Option ℕ). AnswersTests pictures share.values past s (answered.Own bad_value) test) (sym unrefused)
            (subst (λ (f : Option Fence). PassesFence f share.values past.shown (answered.Own bad_value) (IsPassed (waited_fence past.holdings s) share.values × AnswersCall (call_of pictures past.holdings s) (sent_by past.holdings s) (answered.Own bad_value))) (sym fenced)
            (inl (refl, open_unshown home old new seen fence past.shown sees unmet is.reached)));
        calls = λ queue. refl;
        arrivals = sym (append-nil share.arrivals);
        sent = refl;
        sends = λ k d low. absurd (omega (arith, low));
        values = λ t low high. omega arith;
        signals = λ p there. there;
        signalled = λ p there. absurd (empty (subst (λ (xs : List (ℕ × ℕ)). Contains xs p) quiet.signals there));
        left = λ p there. there;
        counts = λ b. omega arith;
        pays = λ frame there. absurd (empty (subst (λ (xs : List FrameNumber). Contains xs frame) quiet.pays there));
        counted = λ place entered. absurd (no_place place (sym quiet.enters ∙ entered));
        order = λ place entered. absurd (no_place place (sym quiet.enters ∙ entered));
      } in
      actor_with pictures actor done actor.parts share share is_next kept (none_adds pictures actor.stock actor.trace at [] share share none)
      (stays pictures actor done share share (λ queue. []) kept (record {
        calls = λ queue. sym (append-nil (share.calls queue));
        holdings = refused_holds past.holdings s;
        since = refl;
        reached = subst (λ (f : Fence). IsSignalled (merged past.shown f) share.values) (sym quiet.shows) (still_reached actor share share (λ t low high. omega arith) kept.reached);
        unused = λ number queue made there makes. empty there;
      }))
    where
      empty : {A : Type 0} {x : A} → Contains [] x → ⊥
      empty there = omega (arith, there.1)

      no_place : (place : ℕ) → None ≡ Some place → ⊥
      no_place place e = cc
