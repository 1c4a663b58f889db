-- A history that tells of a queue goes on with a call.
use Rattle.std.proofs.Common.{◌≡◌, ℕ, Bool, true, false, not, ◌&&◌, List, [], ◌∷◌, ap, ◌∙◌, sym, refl, subst, Some, None}
use Rattle.sf_base.specs.declared.ids.ActorId.{ActorId}
use Rattle.sf_base.specs.declared.ids.SlotId.{SlotId}
use Rattle.sf_base.specs.declared.status.QStatus.{QStatus}
use Rattle.sf_base.specs.declared.status.QStatus.TheVariants as status
use Rattle.sf_slots.specs.declared.calls.Entry.{Entry}
use Rattle.sf_slots.specs.declared.calls.PlainCall.{PlainCall}
use Rattle.sf_slots.specs.declared.calls.PlainCall.TheVariants as call
use Rattle.sf_slots.specs.declared.calls.PlainReply.{PlainReply}
use Rattle.sf_slots.specs.declared.calls.PlainReply.TheVariants as reply
use Rattle.sf_slots.specs.declared.slot.Held.{Held}
use Rattle.sf_slots.specs.declared.slot.SlotState.{SlotState}
use Rattle.sf_slots.specs.declared.slot.SlotState.TheVariants.{Free, Dequeued, Queued, Acquired}
use Rattle.sf_slots.specs.Told.{Told, slot_at, same_state, is_in}
use Rattle.sf_slots.specs.Events.{Event, frames_queued, buffers_made}
use Rattle.sf_slots.specs.History.{events, events_of, happening, settings_after}
use Rattle.sf_slots.specs.Queue.{Queue, IsOut, told_of}
use Rattle.sf_slots.specs.Replies.{Refusal, first_met, refusal_of, is_producers_own, is_producer, own_refusals, given_by, refused_or, reply_told, is_lent, is_taken, is_buffer}
use Rattle.sf_slots.specs.Tells.{IsToldBy, Continues}
use Rattle.sf_slots.proofs.Tells.{Tells}

-- the events of a history tell of a queue that it tells of
pub told_tells : {R : Type 0} {q : Queue R} (width height : ℕ) (history : List Entry) → IsToldBy q width height history → Tells q (events history)
told_tells {R} {q} width height history told = record {
  slots = ap (λ (t : Told). t.slots) told;
  freed = ap (λ (t : Told). t.freed) told;
  items = ap (λ (t : Told). t.items) told;
  frames = ap (λ (t : Told). t.settings.frames) told;
  buffers = ap (λ (t : Told). t.settings.buffers) told;
}

-- a history tells of a queue if its events and its settings do
pub record IsAfter {R : Type 0} (after : Queue R) (width height : ℕ) (history : List Entry) : Type 0 where
  pub tells : Tells after (events history)
  pub settings : after.settings ≡ settings_after width height history

pub told_after : {R : Type 0} (after : Queue R) (width height : ℕ) (history : List Entry) → IsAfter after width height history → IsToldBy after width height history
told_after {R} after width height history parts = λ i. record { slots = parts.tells.slots i; freed = parts.tells.freed i; items = parts.tells.items i; settings = parts.settings i }

pub go_on : {R : Type 0} (q after : Queue R) (caller : ActorId) (asked : PlainCall) (given : PlainReply) → given ≡ reply_told (told_of q) caller asked → ((width height step : ℕ) (history : List Entry) → IsToldBy q width height history → IsAfter after width height (record { caller = caller; step = step; call = asked; reply = given } ∷ history)) → Continues q after caller asked given
go_on {R} q after caller asked given same next = λ width height step history told. record {
  reply = same ∙ ap (λ (t : Told). reply_told t caller asked) told;
  told = told_after after width height (record { caller = caller; step = step; call = asked; reply = given } ∷ history) (next width height step history told);
}

-- what a call gives that is not refused
pub not_refused : (told : Told) (caller : ActorId) (asked : PlainCall) (given : PlainReply) → refusal_of told caller asked ≡ None → given_by told asked ≡ given → given ≡ reply_told told caller asked
not_refused told caller asked given none same = sym same ∙ sym (ap (λ refusal. refused_or refusal (given_by told asked)) none)

-- a refused call has no events
no_events : (before : List Event) (earlier : List Entry) (asked : PlainCall) (cause : QStatus) → events_of before earlier asked (reply.Refused cause) ≡ []
no_events before earlier call.Connect cause = refl
no_events before earlier call.Disconnect cause = refl
no_events before earlier (call.MaxDequeued n) cause = refl
no_events before earlier (call.Async on) cause = refl
no_events before earlier (call.Dequeue width height wait) cause = refl
no_events before earlier (call.Request lease) cause = refl
no_events before earlier (call.Queue lease picture width height time crop fence) cause = refl
no_events before earlier (call.Cancel lease fence) cause = refl
no_events before earlier (call.Detach lease) cause = refl
no_events before earlier (call.Attach held) cause = refl
no_events before earlier (call.MaxAcquired n) cause = refl
no_events before earlier call.Abandon cause = refl
no_events before earlier (call.Acquire expected) cause = refl
no_events before earlier (call.Release lease fence) cause = refl
no_events before earlier (call.DetachRead lease) cause = refl
no_events before earlier (call.AttachRead held) cause = refl

-- a refused call leaves the queue, and the history goes on
pub Continues-refused : {R : Type 0} (q : Queue R) (caller : ActorId) (asked : PlainCall) (cause : QStatus) → refusal_of (told_of q) caller asked ≡ Some cause → Continues q q caller asked (reply.Refused cause)
Continues-refused {R} q caller asked cause met =
    go_on q q caller asked (reply.Refused cause) (sym (ap (λ refusal. refused_or refusal (given_by (told_of q) asked)) met)) (λ width height step history told.
    let before : List Event = events history in
    let same : happening (events_of before history asked (reply.Refused cause)) before ≡ before = ap (λ happened. happening happened before) (no_events before history asked cause) in
    record {
      tells = subst (λ (es : List Event). Tells q es) (sym same) (told_tells width height history told);
      settings = ap (λ (t : Told). t.settings) told ∙ ap (λ (es : List Event). record (settings_after width height history) { frames = frames_queued es; buffers = buffers_made es }) (sym same);
    })

-- a test that is not met leaves those behind it
pub unmet : (test : Bool) (cause : QStatus) (more : List Refusal) → first_met ((test, cause) ∷ more) ≡ None → (test ≡ false) × (first_met more ≡ None)
unmet true cause more none = absurd (cc (none))
unmet false cause more none = (refl, none)

pub own_unmet : (told : Told) (caller : ActorId) (asked : PlainCall) → refusal_of told caller asked ≡ None → first_met (own_refusals told asked) ≡ None
own_unmet told caller asked none =
    let first = unmet told.settings.abandoned status.NoInit ((is_producers_own asked && not (is_producer told.settings.connected caller), status.NoInit) ∷ own_refusals told asked) none in
    (unmet (is_producers_own asked && not (is_producer told.settings.connected caller)) status.NoInit (own_refusals told asked) first.1).1

state_is : (a b : SlotState) → same_state a b ≡ true → a ≡ b
state_is Free Free same = refl
state_is Dequeued Dequeued same = refl
state_is Queued Queued same = refl
state_is Acquired Acquired same = refl
state_is _ _ same = absurd (cc (same))

both_met : (a b : Bool) → not (a && b) ≡ false → a ≡ true
both_met true b met = refl
both_met false b met = absurd (cc (met))

-- a slot that is lent, and one that is taken
pub lent_there : (told : Told) (slot : SlotId) (held : Held) (more : List Refusal) → first_met ((not (is_lent told slot held), status.BadValue) ∷ more) ≡ None → (slot_at told slot.0).state ≡ Dequeued
lent_there told slot held more none =
    state_is (slot_at told slot.0).state Dequeued (both_met (is_in Dequeued (slot_at told slot.0)) (is_buffer (slot_at told slot.0).held held) (unmet (not (is_lent told slot held)) status.BadValue more none).0)

pub taken_there : (told : Told) (slot : SlotId) (held : Held) (more : List Refusal) → first_met ((not (is_taken told slot held), status.BadValue) ∷ more) ≡ None → (slot_at told slot.0).state ≡ Acquired
taken_there told slot held more none =
    state_is (slot_at told slot.0).state Acquired (both_met (is_in Acquired (slot_at told slot.0)) (is_buffer (slot_at told slot.0).held held) (unmet (not (is_taken told slot held)) status.BadValue more none).0)

pub lent_is_out : (state : SlotState) → state ≡ Dequeued → IsOut state
lent_is_out state lent = record { not_free = λ e. cc (lent, e); not_queued = λ e. cc (lent, e) }

pub taken_is_out : (state : SlotState) → state ≡ Acquired → IsOut state
taken_is_out state taken = record { not_free = λ e. cc (taken, e); not_queued = λ e. cc (taken, e) }
