-- Each call gives only the refusals that the table lists for it.
use Rattle.std.proofs.Common.{◌≡◌, not, ◌&&◌, List, [], ◌∷◌, arith, ap, ◌∙◌, sym, refl, subst, Some, inl, inr}
use Rattle.std.proofs.lemmas.Bool.{cases_Bool}
use Rattle.std.specs.Prelude.{if◌then◌else◌}
use Rattle.std.specs.List.{Contains}
use Rattle.sf_base.specs.declared.ids.ActorId.{ActorId}
use Rattle.sf_base.specs.declared.status.QStatus.{QStatus}
use Rattle.sf_base.specs.declared.status.QStatus.TheVariants.{NoInit, BadValue, InvalidOperation, WouldBlock, NoBuffer, PresentLater, Stale, NoSlot}
use Rattle.sf_slots.specs.declared.calls.PlainCall.{PlainCall}
use Rattle.sf_slots.specs.declared.calls.PlainCall.TheVariants as call
use Rattle.sf_slots.specs.Told.{Told}
use Rattle.sf_slots.specs.Refusals.{refusals_of}
use Rattle.sf_slots.specs.Replies.{Refusal, first_met, refusal_of, own_refusals, is_producers_own, is_producer}

-- every test's refusal is among these
abbrev AllAmong : List QStatus → List Refusal → Type 0
AllAmong causes [] = Unit {0}
AllAmong causes (refusal ∷ more) = (Contains causes refusal.1) × (AllAmong causes more)

met_among : (causes : List QStatus) (refusals : List Refusal) (cause : QStatus) → AllAmong causes refusals → first_met refusals ≡ Some cause → Contains causes cause
met_among causes [] cause all met = absurd (cc (met))
met_among causes (refusal ∷ more) cause all met = elim (cases_Bool refusal.0) [
  | inl here ↦
      let found : Some refusal.1 ≡ Some cause = ap (λ b. if b then Some refusal.1 else first_met more) (sym here) ∙ met in
      let same : refusal.1 ≡ cause = cc (found) in
      subst (λ (c : QStatus). Contains causes c) same all.0
  | inr there ↦ met_among causes more cause all.1 (ap (λ b. if b then Some refusal.1 else first_met more) (sym there) ∙ met)
]

first : (x : QStatus) (xs : List QStatus) → Contains (x ∷ xs) x
first x xs = (0, omega arith, refl)

second : (w x : QStatus) (xs : List QStatus) → Contains (w ∷ x ∷ xs) x
second w x xs = (1, omega arith, refl)

third : (v w x : QStatus) (xs : List QStatus) → Contains (v ∷ w ∷ x ∷ xs) x
third v w x xs = (2, omega arith, refl)

fourth : (u v w x : QStatus) (xs : List QStatus) → Contains (u ∷ v ∷ w ∷ x ∷ xs) x
fourth u v w x xs = (3, omega arith, refl)

-- two tests that stand before those of the call itself refuse with the first of its refusals
listed : (told : Told) (caller : ActorId) (asked : PlainCall) (cause : QStatus) (more : List QStatus) → refusals_of asked ≡ NoInit ∷ more → AllAmong (NoInit ∷ more) (own_refusals told asked) → refusal_of told caller asked ≡ Some cause → Contains (refusals_of asked) cause
listed told caller asked cause more table own met =
    subst (λ (causes : List QStatus). Contains causes cause) (sym table)
    (met_among (NoInit ∷ more) ((told.settings.abandoned, NoInit) ∷ (is_producers_own asked && not (is_producer told.settings.connected caller), NoInit) ∷ own_refusals told asked) cause (first NoInit more, (first NoInit more, own)) met)

bad : Contains (NoInit ∷ BadValue ∷ []) BadValue
bad = second NoInit BadValue []

pub refusal_listed : (told : Told) (caller : ActorId) (asked : PlainCall) (cause : QStatus) → refusal_of told caller asked ≡ Some cause → Contains (refusals_of asked) cause
refusal_listed told caller call.Connect cause met = listed told caller call.Connect cause (BadValue ∷ []) refl (bad, tt) met
refusal_listed told caller call.Disconnect cause met = listed told caller call.Disconnect cause [] refl tt met
refusal_listed told caller (call.MaxDequeued n) cause met = listed told caller (call.MaxDequeued n) cause (BadValue ∷ []) refl (bad, (bad, (bad, tt))) met
refusal_listed told caller (call.Async on) cause met = listed told caller (call.Async on) cause (BadValue ∷ []) refl (bad, tt) met
refusal_listed told caller (call.Dequeue width height wait) cause met =
    let rest : List QStatus = BadValue ∷ InvalidOperation ∷ WouldBlock ∷ [] in
    listed told caller (call.Dequeue width height wait) cause rest refl (second NoInit BadValue (InvalidOperation ∷ WouldBlock ∷ []), (third NoInit BadValue InvalidOperation (WouldBlock ∷ []), (fourth NoInit BadValue InvalidOperation WouldBlock [], tt))) met
refusal_listed told caller (call.Request lease) cause met = listed told caller (call.Request lease) cause (BadValue ∷ []) refl (bad, tt) met
refusal_listed told caller (call.Queue lease picture width height time crop fence) cause met = listed told caller (call.Queue lease picture width height time crop fence) cause (BadValue ∷ []) refl (bad, (bad, (bad, (bad, tt)))) met
refusal_listed told caller (call.Cancel lease fence) cause met = listed told caller (call.Cancel lease fence) cause (BadValue ∷ []) refl (bad, tt) met
refusal_listed told caller (call.Detach lease) cause met = listed told caller (call.Detach lease) cause (BadValue ∷ []) refl (bad, (bad, tt)) met
refusal_listed told caller (call.Attach held) cause met = listed told caller (call.Attach held) cause (InvalidOperation ∷ WouldBlock ∷ []) refl (second NoInit InvalidOperation (WouldBlock ∷ []), (third NoInit InvalidOperation WouldBlock [], tt)) met
refusal_listed told caller (call.MaxAcquired n) cause met = listed told caller (call.MaxAcquired n) cause (BadValue ∷ InvalidOperation ∷ []) refl (second NoInit BadValue (InvalidOperation ∷ []), (third NoInit BadValue InvalidOperation [], (second NoInit BadValue (InvalidOperation ∷ []), tt))) met
refusal_listed told caller call.Abandon cause met = listed told caller call.Abandon cause [] refl tt met
refusal_listed told caller (call.Acquire expected) cause met = listed told caller (call.Acquire expected) cause (InvalidOperation ∷ NoBuffer ∷ PresentLater ∷ []) refl (second NoInit InvalidOperation (NoBuffer ∷ PresentLater ∷ []), (third NoInit InvalidOperation NoBuffer (PresentLater ∷ []), (fourth NoInit InvalidOperation NoBuffer PresentLater [], tt))) met
refusal_listed told caller (call.Release lease fence) cause met = listed told caller (call.Release lease fence) cause (BadValue ∷ Stale ∷ []) refl (second NoInit BadValue (Stale ∷ []), (third NoInit BadValue Stale [], (second NoInit BadValue (Stale ∷ []), tt))) met
refusal_listed told caller (call.DetachRead lease) cause met = listed told caller (call.DetachRead lease) cause (BadValue ∷ Stale ∷ []) refl (second NoInit BadValue (Stale ∷ []), (third NoInit BadValue Stale [], (second NoInit BadValue (Stale ∷ []), tt))) met
refusal_listed told caller (call.AttachRead held) cause met = listed told caller (call.AttachRead held) cause (InvalidOperation ∷ NoSlot ∷ []) refl (second NoInit InvalidOperation (NoSlot ∷ []), (third NoInit InvalidOperation NoSlot [], tt)) met
