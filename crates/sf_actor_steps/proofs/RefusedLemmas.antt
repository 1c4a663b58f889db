-- A step that an own test refuses is done, and its actor keeps what it keeps.
use Rattle.std.proofs.Common.{◌≡◌, ℕ, ◌+◌, ◌==◌, ◌&&◌, Bool, true, false, not, List, [], ◌∷◌, ◌++◌, length, Some, None, refl, ap, ◌∙◌, sym, subst}
use Rattle.std.specs.List.{list_all}
use Rattle.std.proofs.lemmas.Bool.{false≢true}
use Rattle.std.proofs.lemmas.List.{append-nil}
use Rattle.sf_actor.specs.sf_picture.declared.picture.Picture.{Picture}
use Rattle.sf_actor.specs.sf_script_scene.declared.step.Step.{Step}
use Rattle.sf_actor.specs.sf_script_scene.declared.step.Step.TheVariants as step
use Rattle.sf_actor.specs.declared.done.Answered.TheVariants as answered
use Rattle.sf_actor.specs.declared.done.Done.{Done}
use Rattle.sf_actor.specs.Desks.{DeskHome, DeskView, known_of}
use Rattle.sf_actor.specs.Names.{Holdings}
use Rattle.sf_actor.specs.Holdings.{HoldingsOf}
use Rattle.sf_actor.specs.Rights.{Turn}
use Rattle.sf_actor.specs.Tests.{first_met, refusal_of, tests_of}
use Rattle.sf_actor.specs.Traces.{Past}
use Rattle.sf_actor.specs.Tries.{ActorKept, ActorOf, AreThere, ended_by, past_of}
use Rattle.sf_actor.specs.Known.{share_of}
use Rattle.sf_actor.proofs.Forms.{IsQuiet, refused_keeps}
use Rattle.sf_actor.proofs.CallGrowth.{goes_same}
use Rattle.sf_actor.proofs.StepKeepsActor.{stepped}
use Rattle.sf_actor_steps.specs.inner.Coming.{DoneWith, IsReady, after_step, reply_with}
use Rattle.sf_actor_steps.specs.declared.bindings.Bindings.{Bindings}

none_some : {A : Type 0} (a : A) → None ≡ Some a → ⊥
none_some a e = cc

-- the status of a test is not 0
abbrev fails : Bool × ℕ → Bool
fails test = not (test.1 == 0)

all_fail : (pictures : ℕ → Picture) (holdings : Holdings) (s : Step) → list_all fails (tests_of pictures holdings s) ≡ true
all_fail pictures holdings (step.Connect q) = refl
all_fail pictures holdings (step.Disconnect q) = refl
all_fail pictures holdings (step.MaxDequeued q n) = refl
all_fail pictures holdings (step.Async q on) = refl
all_fail pictures holdings (step.Dequeue q s size) = refl
all_fail pictures holdings (step.DequeueWait q s size) = refl
all_fail pictures holdings (step.Request s) = refl
all_fail pictures holdings (step.Draw s p) = refl
all_fail pictures holdings (step.Queue s p time crop points) = refl
all_fail pictures holdings (step.Cancel s points) = refl
all_fail pictures holdings (step.PDetach s b) = refl
all_fail pictures holdings (step.PAttach q b s) = refl
all_fail pictures holdings (step.MaxAcquired q n) = refl
all_fail pictures holdings (step.Abandon q) = refl
all_fail pictures holdings (step.Acquire q i at) = refl
all_fail pictures holdings (step.Release i points) = refl
all_fail pictures holdings (step.CDetach i b) = refl
all_fail pictures holdings (step.CAttach q b i) = refl
all_fail pictures holdings (step.Signal t v) = refl
all_fail pictures holdings (step.Wait t v) = refl
all_fail pictures holdings (step.Tx n) = refl
all_fail pictures holdings (step.Desire n time) = refl
all_fail pictures holdings (step.Buffer n layer i) = refl
all_fail pictures holdings (step.Barrier n layer frame) = refl
all_fail pictures holdings (step.Merge n m) = refl
all_fail pictures holdings (step.Apply n token) = refl
all_fail pictures holdings (step.Set n layer change) = refl

failed_at : (met : Bool) (test : ℕ) (tests : List (Bool × ℕ)) (status : ℕ) → list_all fails ((met, test) ∷ tests) ≡ true → ((list_all fails tests ≡ true) → first_met tests ≡ Some status → (status == 0) ≡ false) → first_met ((met, test) ∷ tests) ≡ Some status → (status == 0) ≡ false
failed_at true test tests status all rest e = let same : test ≡ status = some_same test status e in subst (λ (n : ℕ). (n == 0) ≡ false) same (not_zero (test == 0) (list_all fails tests) all)
  where
    some_same : (a b : ℕ) → Some a ≡ Some b → a ≡ b
    some_same a b e = cc

    not_zero : (zero more : Bool) → (not zero && more) ≡ true → zero ≡ false
    not_zero true more e = absurd (false≢true e)
    not_zero false more e = refl
failed_at false test tests status all rest e = rest (behind (test == 0) (list_all fails tests) all) e
  where
    behind : (zero more : Bool) → (not zero && more) ≡ true → more ≡ true
    behind true more e = absurd (false≢true e)
    behind false more e = e

failed_by : (tests : List (Bool × ℕ)) (status : ℕ) → list_all fails tests ≡ true → first_met tests ≡ Some status → (status == 0) ≡ false
failed_by [] status all e = absurd (none_some status e)
failed_by (test ∷ tests) status all e = failed_at test.0 test.1 tests status all (failed_by tests status) e

tested : (pictures : ℕ → Picture) (holdings : Holdings) (s : Step) (status : ℕ) → refusal_of pictures holdings s ≡ Some status → first_met (tests_of pictures holdings s) ≡ Some status
unfolding refusal_of
tested pictures holdings s status e = e

-- a step that is refused signals nothing, shows no point, and draws nothing
quiet : (pictures : ℕ → Picture) (step_number : ℕ) (past : Past) (s : Step) (status : ℕ) → (status == 0) ≡ false → first_met (tests_of pictures past.holdings s) ≡ Some status → IsQuiet (record { place = step_number; past = past; done = record { step = s; answered = answered.Own status } })
quiet pictures step_number past (step.Connect q) status failed e = record { signals = refl; pays = refl; enters = refl; shows = refl }
quiet pictures step_number past (step.Disconnect q) status failed e = record { signals = refl; pays = refl; enters = refl; shows = refl }
quiet pictures step_number past (step.MaxDequeued q n) status failed e = record { signals = refl; pays = refl; enters = refl; shows = refl }
quiet pictures step_number past (step.Async q on) status failed e = record { signals = refl; pays = refl; enters = refl; shows = refl }
quiet pictures step_number past (step.Dequeue q s size) status failed e = record { signals = refl; pays = refl; enters = refl; shows = refl }
quiet pictures step_number past (step.DequeueWait q s size) status failed e = record { signals = refl; pays = refl; enters = refl; shows = refl }
quiet pictures step_number past (step.Request s) status failed e = record { signals = refl; pays = refl; enters = refl; shows = refl }
quiet pictures step_number past (step.Draw s p) status failed e = record { signals = refl; pays = rw failed refl; enters = rw failed refl; shows = rw failed refl }
quiet pictures step_number past (step.Queue s p time crop points) status failed e = record { signals = refl; pays = refl; enters = refl; shows = refl }
quiet pictures step_number past (step.Cancel s points) status failed e = record { signals = refl; pays = refl; enters = refl; shows = refl }
quiet pictures step_number past (step.PDetach s b) status failed e = record { signals = refl; pays = refl; enters = refl; shows = refl }
quiet pictures step_number past (step.PAttach q b s) status failed e = record { signals = refl; pays = refl; enters = refl; shows = refl }
quiet pictures step_number past (step.MaxAcquired q n) status failed e = record { signals = refl; pays = refl; enters = refl; shows = refl }
quiet pictures step_number past (step.Abandon q) status failed e = record { signals = refl; pays = refl; enters = refl; shows = refl }
quiet pictures step_number past (step.Acquire q i at) status failed e = record { signals = refl; pays = refl; enters = refl; shows = refl }
quiet pictures step_number past (step.Release i points) status failed e = record { signals = refl; pays = refl; enters = refl; shows = refl }
quiet pictures step_number past (step.CDetach i b) status failed e = record { signals = refl; pays = refl; enters = refl; shows = refl }
quiet pictures step_number past (step.CAttach q b i) status failed e = record { signals = refl; pays = refl; enters = refl; shows = refl }
quiet pictures step_number past (step.Signal t v) status failed e = absurd (none_some status e)
quiet pictures step_number past (step.Wait t v) status failed e = absurd (none_some status e)
quiet pictures step_number past (step.Tx n) status failed e = record { signals = refl; pays = refl; enters = refl; shows = refl }
quiet pictures step_number past (step.Desire n time) status failed e = record { signals = refl; pays = refl; enters = refl; shows = refl }
quiet pictures step_number past (step.Buffer n layer i) status failed e = record { signals = refl; pays = refl; enters = refl; shows = refl }
quiet pictures step_number past (step.Barrier n layer frame) status failed e = record { signals = refl; pays = refl; enters = refl; shows = refl }
quiet pictures step_number past (step.Merge n m) status failed e = record { signals = refl; pays = refl; enters = refl; shows = refl }
quiet pictures step_number past (step.Apply n token) status failed e = record { signals = refl; pays = refl; enters = refl; shows = refl }
quiet pictures step_number past (step.Set n layer change) status failed e = record { signals = refl; pays = refl; enters = refl; shows = refl }

module _ {B : Type 0} where
  pub refused_done : (pictures : ℕ → Picture) (home : DeskHome) (actor : ActorOf B) (bindings : Bindings B) (view : DeskView B) (s : Step) (status : ℕ) → IsReady pictures home actor bindings view s → refusal_of pictures (past_of actor).holdings s ≡ Some status → DoneWith pictures home actor bindings view view (reply_with actor.script.number (length actor.trace + 1) status [])
  refused_done pictures home actor bindings view s status ready refused =
      let done : Done = record { step = s; answered = answered.Own status } in
      let test = tested pictures (past_of actor).holdings s status refused in
      let failed = failed_by (tests_of pictures (past_of actor).holdings s) status (all_fail pictures (past_of actor).holdings s) test in
      let still = quiet pictures (length actor.trace + 1) (past_of actor) s status failed test in
      let reply = reply_with actor.script.number (length actor.trace + 1) status [] in
      let kept = refused_keeps pictures actor s status (share_of actor.script.number (known_of home view)) ready.is_next refused failed still ready.keeps.kept in
      let moved : ActorKept pictures (after_step actor bindings done reply) (share_of actor.script.number (known_of home view)) =
      subst (λ (parts : HoldingsOf B). ActorKept pictures (stepped actor done parts) (share_of actor.script.number (known_of home view))) ready.parts kept in
      record {
        done = done;
        does = record {
          done = done;
          trace = refl;
          replies = refl;
          replied = refl;
          same = refl;
          signals = sym (ap (λ (more : List (ℕ × ℕ)). view.times.signals ++ more) still.signals ∙ append-nil view.times.signals);
          ended = sym (ap (λ (more : List Turn). view.turns.leaves ++ more) (none_ended actor.parts s status failed) ∙ append-nil view.turns.leaves);
          entered = λ name picture is own. absurd (zero_failed status failed own);
          refused = λ fence fenced unrefused own. absurd (none_some status (sym unrefused ∙ refused));
          alone = λ exact other apart. goes_same other (known_of home view);
        };
        keeps = record { kept = moved; there = subst (λ (parts : HoldingsOf B). AreThere home parts) ready.parts ready.keeps.there };
      }
    where
      none_ended : (parts : HoldingsOf B) (s : Step) (status : ℕ) → (status == 0) ≡ false → ended_by parts (record { step = s; answered = answered.Own status }) ≡ []
      none_ended parts s status failed = rw failed refl

      own_same : (a b : ℕ) → answered.Own a ≡ answered.Own b → a ≡ b
      own_same a b e = cc

      zero_failed : (status : ℕ) → (status == 0) ≡ false → answered.Own status ≡ answered.Own 0 → ⊥
      zero_failed status failed own = let none : status ≡ 0 = own_same status 0 own in false≢true (sym failed ∙ ap (λ (n : ℕ). n == 0) none)
