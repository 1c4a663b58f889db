-- A try of an actor's next step, of what it has and knows.
use Rattle.std.proofs.Common.{◌≡◌, ℕ, zero, suc, ◌+◌, ◌==◌, true, false, List, [], ◌∷◌, ◌++◌, length, Option, Some, None, refl, ap, ◌∙◌, sym, subst, inl, inr, arith, length-append}
use Rattle.std.specs.Prelude.{slice_get, IfSome}
use Rattle.std.specs.List.{All}
use Rattle.std.proofs.lemmas.Bool.{cases_Bool, eqb-true, false≢true}
use Rattle.std.proofs.lemmas.List.Elements.{All-head, All-tail}
use Rattle.atomic_table.specs.Seated.{TableId}
use Rattle.sf_base.specs.declared.ids.ActorId.{ActorId}
use Rattle.sf_actor.specs.sf_picture.declared.picture.Picture.{Picture}
use Rattle.sf_actor.specs.sf_script_scene.declared.step.ActorScript.{ActorScript}
use Rattle.sf_actor.specs.sf_script_scene.declared.step.Step.{Step}
use Rattle.sf_actor.specs.sf_script_scene.Named.{KnowsPicture, picture_named}
use Rattle.sf_actor.specs.sf_script_scene.Scene.{has_picture}
use Rattle.sf_actor.specs.declared.tried.Reply.{Reply}
use Rattle.sf_actor.specs.declared.tried.Stepped.TheVariants as stepped
use Rattle.sf_actor.specs.Desks.{DeskHome, DeskView}
use Rattle.sf_actor.specs.Names.{Holdings}
use Rattle.sf_actor.specs.Scripts.{picture_at}
use Rattle.sf_actor.specs.Tests.{refusal_of}
use Rattle.sf_actor.specs.Tries.{ActorOf, Keeps, next_step, past_of}
use Rattle.sf_actor_steps.specs.Acting.{Attempts, MayAct}
use Rattle.sf_actor_steps.specs.Actors.{Acts, IsActor, IsKept, Steps}
use Rattle.sf_actor_steps.specs.inner.Coming.{Comes, DoneWith, IsReady, LeftWith, after_step, is_done, reply_told}
use Rattle.sf_actor_steps.specs.Bindings.{holdings_of}
use Rattle.sf_actor_steps.specs.Playable.{IsPlayable, MayPlay}
use Rattle.sf_actor_steps.specs.declared.actor.Actor.{Actor}
use Rattle.sf_actor_steps.specs.declared.bindings.Bindings.{Bindings}
use Rattle.sf_actor_steps.specs.declared.tried.Tried.{Tried}
use Rattle.sf_actor_steps.specs.declared.tried.Tried.TheVariants as tried
use Rattle.sf_actor_steps.proofs.StepOutcomes.{acts_comes}
use Rattle.sf_actor_steps.proofs.ReadyLemmas.{holds_told, may_try}
use Rattle.sf_actor_steps.proofs.RefusedLemmas.{refused_done}
use Rattle.sf_actor_steps.proofs.StayingLemmas.{Stays, attempt_stays}

-- what holds of all steps holds of the next one
of_next : {A : Type 0} (P : A → Type 0) (xs : List A) (n : ℕ) (x : A) → All P xs → slice_get xs n ≡ Some x → P x
of_next P [] n x all e = absurd (none_some x e)
  where
    none_some : {A : Type 0} (a : A) → None ≡ Some a → ⊥
    none_some a e = cc
of_next P (y ∷ ys) zero x all e = let same : y ≡ x = some_same y x e in subst P same (All-head P y ys all)
  where
    some_same : {A : Type 0} (a b : A) → Some a ≡ Some b → a ≡ b
    some_same a b e = cc
of_next P (y ∷ ys) (suc n) x all e = of_next P ys n x (All-tail P y ys all) e

of_some : {A : Type 0} (P Q : A → Type 0) (o : Option A) → ((x : A) → P x → Q x) → IfSome o P → IfSome o Q
of_some P Q None f p = tt
of_some P Q (Some x) f p = f x p

-- the picture of a number that is there has this number
numbered : (pictures : List Picture) (number : ℕ) → has_picture pictures number ≡ true → (picture_at pictures number).number ≡ number
unfolding picture_at
numbered [] number e = absurd (false≢true e)
numbered (p ∷ ps) number e = elim (cases_Bool (p.number == number)) [
  | inl met ↦ rw met (eqb-true p.number number met)
  | inr unmet ↦ let f = rw unmet at e in rw unmet (numbered ps number f)
]

module _ {B : Type 0} where
  -- a step comes to this, whether a test refuses it or not
  tries_come : (pictures : ℕ → Picture) (home : DeskHome) (actor : ActorOf B) (bindings left : Bindings B) (before after : DeskView B) (s : Step) (came_to : Tried) (refusal : Option ℕ) → refusal_of pictures (past_of actor).holdings s ≡ refusal → IsReady pictures home actor bindings before s → Attempts refusal pictures home actor.script.number (length actor.trace + 1) s bindings left before after came_to → Comes pictures home actor left before after came_to
  tries_come pictures home actor bindings left before after s came_to (Some status) refused ready attempts =
      let done = refused_done pictures home actor bindings before s status ready refused in
      subst (λ (came : Tried). Comes pictures home actor left before after came) (sym attempts.0)
      (subst (λ (kept : Bindings B). Comes pictures home actor kept before after (tried.Own status)) (sym attempts.1)
      (subst (λ (view : DeskView B). Comes pictures home actor bindings before view (tried.Own status)) (sym attempts.2) done))
  tries_come pictures home actor bindings left before after s came_to None refused ready attempts = acts_comes pictures home actor bindings left before after s came_to ready refused attempts

  done_so : (pictures : ℕ → Picture) (home : DeskHome) (actor : ActorOf B) (bindings : Bindings B) (before after : DeskView B) (came_to : Tried) → is_done came_to ≡ true → Comes pictures home actor bindings before after came_to → DoneWith pictures home actor bindings before after (reply_told actor.script.number (length actor.trace + 1) came_to)
  done_so pictures home actor bindings before after (tried.Own status) is comes = comes
  done_so pictures home actor bindings before after (tried.Called status values) is comes = comes
  done_so pictures home actor bindings before after (tried.Sent number) is comes = comes
  done_so pictures home actor bindings before after tried.NotYet is comes = absurd (false≢true is)

  left_so : (pictures : ℕ → Picture) (home : DeskHome) (actor : ActorOf B) (bindings : Bindings B) (before after : DeskView B) (came_to : Tried) → is_done came_to ≡ false → Comes pictures home actor bindings before after came_to → LeftWith pictures home actor bindings before after
  left_so pictures home actor bindings before after (tried.Own status) is comes = absurd (false≢true (sym is))
  left_so pictures home actor bindings before after (tried.Called status values) is comes = absurd (false≢true (sym is))
  left_so pictures home actor bindings before after (tried.Sent number) is comes = absurd (false≢true (sym is))
  left_so pictures home actor bindings before after tried.NotYet is comes = comes

  module _ (table : TableId) (pictures : List Picture) (home : DeskHome) (old : Actor B) (before : DeskView B) (s : Step) (plays : MayPlay home pictures old.script) (there : slice_get old.script.steps (length old.replies.items) ≡ Some s) where
    ready_for : (actor : ActorOf B) → IsActor table old actor → Keeps (picture_at pictures) home actor before → IsReady (picture_at pictures) home actor old.bindings before s
    ready_for actor is keeps = record {
      parts = is.parts;
      names = is.names;
      numbers = is.numbers;
      is_next = ap (λ (script : ActorScript). slice_get script.steps (length actor.trace)) is.script ∙ ap (slice_get old.script.steps) is.trace ∙ there;
      playable = of_next (IsPlayable home) old.script.steps (length old.replies.items) s plays.playable there;
      pictured = of_some (λ (number : ℕ). has_picture pictures number ≡ true) (λ (number : ℕ). (picture_at pictures number).number ≡ number) (picture_named s) (numbered pictures) (of_next (KnowsPicture pictures) old.script.steps (length old.replies.items) s plays.pictured there);
      keeps = keeps;
    }

    pub may_be_tried : IsKept table (picture_at pictures) home old before → refusal_of (picture_at pictures) (holdings_of old.bindings) s ≡ None → MayAct (picture_at pictures) table home s old.bindings
    may_be_tried kept unrefused = may_try (picture_at pictures) table home kept.of old.bindings before s (ready_for kept.of kept.is kept.keeps) kept.is.of_table unrefused

    -- what the step came to, for each actor that fits
    comes_for : (actor : ActorOf B) → IsActor table old actor → Keeps (picture_at pictures) home actor before → (left : Bindings B) (after : DeskView B) (step_number : ℕ) (came_to : Tried) → step_number ≡ length old.replies.items + 1 → Attempts (refusal_of (picture_at pictures) (holdings_of old.bindings) s) (picture_at pictures) home old.bindings.by.0 step_number s old.bindings left before after came_to → Comes (picture_at pictures) home actor left before after came_to
    comes_for actor is keeps left after step_number came_to at attempts =
        let ready = ready_for actor is keeps in
        let told : holdings_of old.bindings ≡ (past_of actor).holdings = holds_told (picture_at pictures) table home actor old.bindings before s ready in
        let number : old.bindings.by.0 ≡ actor.script.number = is.by_it ∙ sym (ap (λ (script : ActorScript). script.number) is.script) in
        let here : step_number ≡ length actor.trace + 1 = at ∙ ap (λ (n : ℕ). n + 1) (sym is.trace) in
        tries_come (picture_at pictures) home actor old.bindings left before after s came_to (refusal_of (picture_at pictures) (past_of actor).holdings s) refl ready
        (subst (λ (holdings : Holdings). Attempts (refusal_of (picture_at pictures) holdings s) (picture_at pictures) home actor.script.number (length actor.trace + 1) s old.bindings left before after came_to) told
        (subst (λ (by : ℕ). Attempts (refusal_of (picture_at pictures) (holdings_of old.bindings) s) (picture_at pictures) home by (length actor.trace + 1) s old.bindings left before after came_to) number
        (subst (λ (n : ℕ). Attempts (refusal_of (picture_at pictures) (holdings_of old.bindings) s) (picture_at pictures) home old.bindings.by.0 n s old.bindings left before after came_to) here attempts)))

    stays_for : (actor : ActorOf B) → IsActor table old actor → (left : Bindings B) (after : DeskView B) (step_number : ℕ) (came_to : Tried) → Attempts (refusal_of (picture_at pictures) (holdings_of old.bindings) s) (picture_at pictures) home old.bindings.by.0 step_number s old.bindings left before after came_to → Stays table old.bindings left
    stays_for actor is left after step_number came_to attempts =
        attempt_stays table (refusal_of (picture_at pictures) (holdings_of old.bindings) s) (picture_at pictures) home old.bindings.by.0 step_number s old.bindings left before after came_to is.of_table attempts

    -- what the step did, for each actor that fits
    acts_for : (actor : ActorOf B) → IsActor table old actor → (left : Bindings B) (after : DeskView B) (step_number : ℕ) (came_to : Tried) → step_number ≡ length old.replies.items + 1 → Attempts (refusal_of (picture_at pictures) (holdings_of old.bindings) s) (picture_at pictures) home old.bindings.by.0 step_number s old.bindings left before after came_to → (t : Step) → next_step actor ≡ Some t → Acts (picture_at pictures) home t (length actor.trace + 1) old.bindings before left after
    acts_for actor is left after step_number came_to at attempts t next =
        let here : step_number ≡ length actor.trace + 1 = at ∙ ap (λ (n : ℕ). n + 1) (sym is.trace) in
        let same : s ≡ t = same_step s t (sym there ∙ sym (next_is actor is) ∙ next) in
        record {
          came_to = came_to;
          attempts =
              subst (λ (u : Step). Attempts (refusal_of (picture_at pictures) (holdings_of old.bindings) u) (picture_at pictures) home old.bindings.by.0 (length actor.trace + 1) u old.bindings left before after came_to) same
              (subst (λ (n : ℕ). Attempts (refusal_of (picture_at pictures) (holdings_of old.bindings) s) (picture_at pictures) home old.bindings.by.0 n s old.bindings left before after came_to) here attempts);
        }
      where
        same_step : (a b : Step) → Some a ≡ Some b → a ≡ b
        same_step a b e = cc

        next_is : (actor : ActorOf B) → IsActor table old actor → next_step actor ≡ slice_get old.script.steps (length old.replies.items)
        next_is actor is = ap (λ (script : ActorScript). slice_get script.steps (length actor.trace)) is.script ∙ ap (slice_get old.script.steps) is.trace

    -- the step is not done
    pub is_left : (actor : ActorOf B) → IsActor table old actor → Keeps (picture_at pictures) home actor before → (new : Actor B) (after : DeskView B) (step_number : ℕ) (came_to : Tried) → step_number ≡ length old.replies.items + 1 → Attempts (refusal_of (picture_at pictures) (holdings_of old.bindings) s) (picture_at pictures) home old.bindings.by.0 step_number s old.bindings new.bindings before after came_to → is_done came_to ≡ false → new.script ≡ old.script → new.replies.items ≡ old.replies.items → new.is_spent ≡ old.is_spent → Steps table (picture_at pictures) home old.bindings actor before new after stepped.NotYet
    is_left actor is keeps new after step_number came_to at attempts undone script replies spent =
        let left = left_so (picture_at pictures) home actor new.bindings before after came_to undone (comes_for actor is keeps new.bindings after step_number came_to at attempts) in
        let stays = stays_for actor is new.bindings after step_number came_to attempts in
        record {
          new = actor;
          is = record {
            script = is.script ∙ sym script;
            by_it = ap (λ (by : ActorId). by.0) stays.by ∙ is.by_it ∙ sym (ap (λ (all : ActorScript). all.number) script);
            parts = sym left.parts;
            names = stays.names ∙ is.names;
            numbers = stays.numbers ∙ is.numbers;
            replies = is.replies ∙ sym replies;
            trace = is.trace ∙ sym (ap (λ (all : List Reply). length all) replies);
            spent = is.spent ∙ sym spent;
            of_table = stays.of_table is.of_table;
          };
          keeps = left.keeps;
          tries = left.leaves;
          acts = acts_for actor is new.bindings after step_number came_to at attempts;
        }

    -- the step is done
    pub is_made : (actor : ActorOf B) → IsActor table old actor → Keeps (picture_at pictures) home actor before → (new : Actor B) (after : DeskView B) (step_number : ℕ) (came_to : Tried) (reply : Reply) → step_number ≡ length old.replies.items + 1 → Attempts (refusal_of (picture_at pictures) (holdings_of old.bindings) s) (picture_at pictures) home old.bindings.by.0 step_number s old.bindings new.bindings before after came_to → is_done came_to ≡ true → reply ≡ reply_told old.script.number step_number came_to → new.script ≡ old.script → new.replies.items ≡ old.replies.items ++ reply ∷ [] → new.is_spent ≡ old.is_spent → Steps table (picture_at pictures) home old.bindings actor before new after stepped.Done
    is_made actor is keeps new after step_number came_to reply at attempts done_now replied script replies spent =
        let done = done_so (picture_at pictures) home actor new.bindings before after came_to done_now (comes_for actor is keeps new.bindings after step_number came_to at attempts) in
        let stays = stays_for actor is new.bindings after step_number came_to attempts in
        let told = reply_told actor.script.number (length actor.trace + 1) came_to in
        let same : reply ≡ told = replied ∙ ap (λ (n : ℕ). reply_told n step_number came_to) (sym (ap (λ (all : ActorScript). all.number) is.script)) ∙ ap (λ (n : ℕ). reply_told actor.script.number n came_to) (at ∙ ap (λ (n : ℕ). n + 1) (sym is.trace)) in
        let joined : new.replies.items ≡ old.replies.items ++ told ∷ [] = replies ∙ ap (λ (r : Reply). old.replies.items ++ r ∷ []) same in
        record {
          new = after_step actor new.bindings done.done told;
          is = record {
            script = is.script ∙ sym script;
            by_it = ap (λ (by : ActorId). by.0) stays.by ∙ is.by_it ∙ sym (ap (λ (all : ActorScript). all.number) script);
            parts = refl;
            names = stays.names ∙ is.names;
            numbers = stays.numbers ∙ is.numbers;
            replies = ap (λ (all : List Reply). all ++ told ∷ []) is.replies ∙ sym joined;
            trace =
                let a = length-append actor.trace (done.done ∷ []) in
                let b = length-append old.replies.items (told ∷ []) in
                let c = ap (λ (all : List Reply). length all) joined in
                let d = is.trace in
                omega (arith, a, b, c, d);
            spent = is.spent ∙ sym spent;
            of_table = stays.of_table is.of_table;
          };
          keeps = done.keeps;
          tries = (told, done.does);
          acts = acts_for actor is new.bindings after step_number came_to at attempts;
        }
