-- Whatever a try of a step comes to, the ledger of the run stays one.
use Rattle.std.proofs.Common.{◌≡◌, ℕ, ◌+◌, ◌==◌, Bool, true, false, [], ◌∷◌, arith, ap, ◌∙◌, refl, subst, length, Option, Some, None}
use Rattle.std.specs.List.{sum_by}
use Rattle.sf_actor_set.specs.sf_picture.declared.picture.Picture.{Picture}
use Rattle.sf_actor_set.specs.sf_script_scene.declared.step.Step.{Step}
use Rattle.sf_actor_set.specs.sf_script_scene.declared.step.Step.TheVariants as step
use Rattle.sf_actor_set.specs.sf_txn.Transactions.{empty}
use Rattle.sf_actor_set.specs.sf_actor.declared.done.Answered.TheVariants as answered
use Rattle.sf_actor_set.specs.sf_actor.Desks.{DeskHome, DeskView}
use Rattle.sf_actor_set.specs.sf_actor.Names.{Holdings, name_in}
use Rattle.sf_actor_set.specs.sf_actor.Points.{frame_fence, requested_fence}
use Rattle.sf_actor_set.specs.sf_actor.Tests.{bad_value, first_met, refusal_of}
use Rattle.sf_actor_set.specs.sf_actor.Tests as tests
use Rattle.sf_actor_set.specs.sf_actor.Written as written
use Rattle.sf_actor_set.specs.sf_actor_steps.declared.bindings.Bindings.{Bindings}
use Rattle.sf_actor_set.specs.sf_actor_steps.declared.tried.Tried.{Tried}
use Rattle.sf_actor_set.specs.sf_actor_steps.declared.tried.Tried.TheVariants as tried
use Rattle.sf_actor_set.specs.sf_actor_steps.Acting.{Acts, Attempts}
use Rattle.sf_actor_set.specs.sf_actor_steps.Actors.{parts_of}
use Rattle.sf_actor_set.specs.sf_actor_steps.Bindings.{holdings_of}
use Rattle.law_rights.specs.Ledgers.{IsLedger}
use Rattle.law_rights.specs.Makers.{places_held}
use Rattle.law_rights.specs.PlaceTries.{PlacesGo}
use Rattle.law_rights.specs.States.{State, ledger_of}
use Rattle.law_rights.specs.Tries.{AnswersAs, TriesIn}
use Rattle.law_rights.proofs.Draws.{draws_keep}
use Rattle.law_rights.proofs.Forms.{changes_keep, disconnects_keep, edits_keep, leaves_keep, put_txn, sends_keep, times_only}
use Rattle.law_rights.proofs.CallTries.{call_keeps}
use Rattle.law_rights.proofs.PlaceChanges.{Went}
use Rattle.law_rights.proofs.Quiet.{same_bindings}
use Rattle.law_rights.proofs.ReleasedFrames.{merges_keep, shows_keep}

-- a test that refuses a draw has a status that is not 0
not_zero : (first second : Bool) (status : ℕ) → first_met ((first, tests.empty) ∷ (second, bad_value) ∷ []) ≡ Some status → (status == 0) ≡ false
not_zero true second status met = let same : 15 ≡ status = cc (met) in subst (λ (n : ℕ). (n == 0) ≡ false) same refl
not_zero false true status met = let same : 11 ≡ status = cc (met) in subst (λ (n : ℕ). (n == 0) ≡ false) same refl
not_zero false false status met = absurd (cc (met))

-- a step that an own test refuses writes nothing
refused_writes : (pictures : ℕ → Picture) (holdings : Holdings) (s : Step) (status : ℕ) → refusal_of pictures holdings s ≡ Some status → written.written_by holdings s (answered.Own status) ≡ []
unfolding refusal_of
refused_writes pictures holdings (step.Draw name p) status met = rw (not_zero _ _ status met) refl
refused_writes pictures holdings s status met = refl

module _ {B : Type 0} (pictures : ℕ → Picture) (home : DeskHome) (place : ℕ) where
  acts_keep : (s : Step) (came_to : Tried) (before after : Bindings B) (old new : State B) (tries : TriesIn pictures home place s came_to before after old new) → refusal_of pictures (holdings_of before) s ≡ None
      → Acts pictures home before.by.0 (length tries.was.trace + 1) s before after old.view new.view came_to → IsLedger (ledger_of old) → Went s before (length tries.was.trace + 1) old new
  acts_keep (step.Disconnect q) came_to before after old new tries none acts is = disconnects_keep pictures home place (step.Disconnect q) came_to before after old new tries q none acts is
  acts_keep (step.PDetach from to) came_to before after old new tries none acts is =
      leaves_keep pictures home place (step.PDetach from to) came_to before after old new tries (requested_fence (name_in (holdings_of before) from)) none (λ answer. refl) acts is
  acts_keep (step.CDetach from to) came_to before after old new tries none acts is =
      leaves_keep pictures home place (step.CDetach from to) came_to before after old new tries (frame_fence (name_in (holdings_of before) from)) none (λ answer. refl) acts is
  acts_keep (step.Draw name p) came_to before after old new tries none acts is = draws_keep pictures home place name p came_to before after old new tries acts is
  acts_keep (step.Signal t v) came_to before after old new tries none acts is = times_only pictures home place (step.Signal t v) came_to before after old new tries acts.times acts.bindings (λ answer told. refl) is
  acts_keep (step.Wait t v) came_to before after old new tries none acts is = times_only pictures home place (step.Wait t v) came_to before after old new tries acts.times acts.bindings (λ answer told. refl) is
  acts_keep (step.Tx number) came_to before after old new tries none acts is =
      changes_keep pictures home place (step.Tx number) came_to before after old new tries acts.desk (ap (λ (bindings : Bindings B). bindings.names) acts.changed)
      (λ w. let put = put_txn w before number empty in let e = ap (λ (bindings : Bindings B). sum_by w (places_held (parts_of bindings))) acts.changed in omega (arith, put, e)) (λ answer. refl) is
  acts_keep (step.Desire number time) came_to before after old new tries none acts is =
      edits_keep pictures home place (step.Desire number time) came_to before after old new tries number _ (λ txn. refl) (λ answer. refl) acts is
  acts_keep (step.Barrier number layer frame) came_to before after old new tries none acts is =
      edits_keep pictures home place (step.Barrier number layer frame) came_to before after old new tries number _ (λ txn. refl) (λ answer. refl) acts is
  acts_keep (step.Set number layer change) came_to before after old new tries none acts is =
      edits_keep pictures home place (step.Set number layer change) came_to before after old new tries number _ (λ txn. refl) (λ answer. refl) acts is
  acts_keep (step.Buffer number layer name) came_to before after old new tries none acts is =
      shows_keep pictures home place (step.Buffer number layer name) came_to before after old new tries number layer name (λ answer. refl) acts.1 is
  acts_keep (step.Merge number other) came_to before after old new tries none acts is =
      merges_keep pictures home place (step.Merge number other) came_to before after old new tries number other (λ answer. refl) acts.1 is
  acts_keep (step.Apply number token) came_to before after old new tries none acts is =
      sends_keep pictures home place (step.Apply number token) came_to before after old new tries number token (λ answer. refl) acts is
  acts_keep s came_to before after old new tries none acts is = call_keeps pictures home place s came_to before after old new tries none acts is

  -- a step that an own test refuses
  refused_keeps : (s : Step) (came_to : Tried) (before after : Bindings B) (old new : State B) (tries : TriesIn pictures home place s came_to before after old new) (status : ℕ) → refusal_of pictures (holdings_of before) s ≡ Some status
      → came_to ≡ tried.Own status → after ≡ before → new.view ≡ old.view → IsLedger (ledger_of old) → Went s before (length tries.was.trace + 1) old new
  refused_keeps s came_to before after old new tries status refused came same view is =
      same_bindings pictures home place s came_to before after old new tries (ap (λ (v : DeskView B). v.calls) view) (ap (λ (v : DeskView B). v.turns.leaves) view) (ap (λ (v : DeskView B). v.arrivals) view) same
      (λ answer told. ap (written.written_by (holdings_of before) s) (subst (λ (c : Tried). AnswersAs home before.by.0 (length tries.was.trace + 1) s (holdings_of before) old new c answer) came told) ∙ refused_writes pictures (holdings_of before) s status refused) is

  attempts_keep : (s : Step) (came_to : Tried) (before after : Bindings B) (old new : State B) (tries : TriesIn pictures home place s came_to before after old new) (refusal : Option ℕ) → refusal_of pictures (holdings_of before) s ≡ refusal
      → Attempts refusal pictures home before.by.0 (length tries.was.trace + 1) s before after old.view new.view came_to → IsLedger (ledger_of old) → Went s before (length tries.was.trace + 1) old new
  attempts_keep s came_to before after old new tries None none acts is = acts_keep s came_to before after old new tries none acts is
  attempts_keep s came_to before after old new tries (Some status) some attempts is = refused_keeps s came_to before after old new tries status some attempts.0 attempts.1 attempts.2 is

  try_went : (s : Step) (came_to : Tried) (before after : Bindings B) (old new : State B) (tries : TriesIn pictures home place s came_to before after old new) → IsLedger (ledger_of old) → Went s before (length tries.was.trace + 1) old new
  try_went s came_to before after old new tries is = attempts_keep s came_to before after old new tries (refusal_of pictures (holdings_of before) s) refl tries.attempts is

  pub try_keeps : (s : Step) (came_to : Tried) (before after : Bindings B) (old new : State B) → TriesIn pictures home place s came_to before after old new → IsLedger (ledger_of old) → IsLedger (ledger_of new)
  try_keeps s came_to before after old new tries is = (try_went s came_to before after old new tries is).ledger

  pub try_places : (s : Step) (came_to : Tried) (before after : Bindings B) (old new : State B) (tries : TriesIn pictures home place s came_to before after old new) → IsLedger (ledger_of old)
      → PlacesGo (holdings_of before) s before.by.0 (length tries.was.trace + 1) old new
  try_places s came_to before after old new tries is = (try_went s came_to before after old new tries is).places
