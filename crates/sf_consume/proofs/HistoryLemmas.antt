-- A history that tells of a queue goes on with the consumer's calls.
use Rattle.std.proofs.Common.{◌≡◌, ℕ, false, ap, ◌∙◌, sym, subst, Some, None, slice_get}
use Rattle.sf_base.specs.Fences.{Fence, no_points}
use Rattle.sf_base.specs.declared.ids.ActorId.{ActorId}
use Rattle.sf_base.specs.declared.ids.SlotId.{SlotId}
use Rattle.sf_base.specs.declared.status.QStatus.{QStatus}
use Rattle.sf_slots.specs.declared.calls.PlainCall.{PlainCall}
use Rattle.sf_slots.specs.declared.calls.PlainCall.TheVariants as call
use Rattle.sf_slots.specs.declared.calls.PlainReply.{PlainReply}
use Rattle.sf_slots.specs.declared.calls.PlainReply.TheVariants as reply
use Rattle.sf_slots.specs.declared.calls.ReadToken.{ReadToken}
use Rattle.sf_slots.specs.declared.item.Item.{Item}
use Rattle.sf_slots.specs.declared.slot.Held.{Held}
use Rattle.sf_slots.specs.declared.slot.SlotState.TheVariants.{Free}
use Rattle.sf_slots.specs.Queue.{Queue, IsSound, told_of, slot_in, plain_item, returned, cleared, taken, seated, next_held, configured, given_up, handed_over}
use Rattle.sf_slots.specs.Effects.{nobody, dropped_first}
use Rattle.sf_slots.specs.Replies.{refusal_of, dropped_count}
use Rattle.sf_slots.specs.Tells.{Continues}
use Rattle.sf_slots.specs.Told.{Told, slot_for}
use Rattle.sf_slots.proofs.HistoryGoesOn.{Continues-refused}
use Rattle.sf_slots.proofs.GoingLeases.{Continues-Release, Continues-DetachRead, Continues-AttachRead}
use Rattle.sf_slots.proofs.GoingItems.{Continues-Acquire}
use Rattle.sf_slots.proofs.GoingSettings.{Continues-MaxAcquired, Continues-Abandon}
use Rattle.sf_consume.specs.Reads.{lease_of, IsLeaseOf}
use Rattle.std.proofs.Common.{Bool, Option, List, [], ◌∷◌, inl, inr, arith, refl, ◌==◌, ◌&&◌, not, nat_le, ap₂, unwrap_or}
use Rattle.std.proofs.lemmas.Bool.{cases_Bool}
use Rattle.std.proofs.lemmas.Bool.Decides.{nat_tests}
use Rattle.sf_base.specs.declared.status.QStatus.TheVariants.{NoInit, BadValue, Stale}
use Rattle.sf_slots.specs.declared.slot.SlotState.{SlotState}
use Rattle.sf_slots.specs.declared.slot.SlotState.TheVariants.{Dequeued, Queued, Acquired}
use Rattle.sf_slots.specs.Replies.{Refusal, first_met, is_buffer, is_taken}
use Rattle.sf_slots.specs.Told.{slot_at, same_state}
use Rattle.sf_consume.specs.Reads.{no_buffer}

-- the queue after a call, under another name
pub go_to : {R : Type 0} {by : ActorId} {asked : PlainCall} {given : PlainReply} (q after left : Queue R) → Continues q left by asked given → after ≡ left → Continues q after by asked given
go_to {R} {by} {asked} {given} q after left going same = subst (λ (p : Queue R). Continues q p by asked given) (sym same) going

taken_with : (state : SlotState) (found : Option Held) (held : Held) → ((h : Held) → state ≡ Acquired → found ≡ Some h → held ≡ h) → (same_state state Acquired && is_buffer found held) ≡ (same_state state Acquired && is_buffer found (unwrap_or found no_buffer))
taken_with state None held whole = refl
taken_with Free (Some h) held whole = refl
taken_with Dequeued (Some h) held whole = refl
taken_with Queued (Some h) held whole = refl
taken_with Acquired (Some h) held whole = ap (λ (b : Held). is_buffer (Some h) b) (whole h refl refl)

-- the tests of giving a buffer back
tests : Told → ℕ → Bool → Bool → List Refusal
tests told slot same taken = (told.settings.abandoned, NoInit) ∷ (false, NoInit) ∷ (nat_le 64 slot, BadValue) ∷ (not same, Stale) ∷ (not taken, BadValue) ∷ []

stale_same : (told : Told) (slot : ℕ) (same a b : Bool) → same ≡ false → first_met (tests told slot same a) ≡ first_met (tests told slot same b)
unfolding tests
stale_same told slot same a b stale = rw stale refl

-- where the frame is the slot's, the lease's buffer counts as the slot's own
buffer_same : (told : Told) (slot : SlotId) (frame : ℕ) (lease : ReadToken) → IsLeaseOf told slot frame lease → first_met (tests told slot.0 ((slot_at told slot.0).frame == frame) (is_taken told slot lease.held)) ≡ first_met (tests told slot.0 ((slot_at told slot.0).frame == frame) (is_taken told slot (unwrap_or (slot_at told slot.0).held no_buffer)))
buffer_same told slot frame lease is_lease = elim (cases_Bool ((slot_at told slot.0).frame == frame)) [
  | inl met ↦
      let same : (slot_at told slot.0).frame ≡ frame = grind (arith, nat_tests, met) in
      ap (λ taken. first_met (tests told slot.0 ((slot_at told slot.0).frame == frame) taken)) (taken_with (slot_at told slot.0).state (slot_at told slot.0).held lease.held (λ h taken here. is_lease.whole h taken here same))
  | inr unmet ↦ stale_same told slot.0 ((slot_at told slot.0).frame == frame) (is_taken told slot lease.held) (is_taken told slot (unwrap_or (slot_at told slot.0).held no_buffer)) unmet
]

-- a lease is refused as the slot and the frame that it means
release_same : (told : Told) (by : ActorId) (slot : SlotId) (frame : ℕ) (fence : Fence) (lease : ReadToken) → IsLeaseOf told slot frame lease → refusal_of told by (call.Release lease fence) ≡ refusal_of told nobody (call.DetachRead (lease_of told slot frame))
unfolding tests
release_same told by slot frame fence lease is_lease =
    ap₂ (λ (s : SlotId) (n : ℕ). refusal_of told by (call.Release (record { slot = s; frame = n; held = lease.held; picture = lease.picture; crop = lease.crop; fence = no_points }) fence)) is_lease.slot is_lease.frame
    ∙ buffer_same told slot frame lease is_lease

detach_same : (told : Told) (by : ActorId) (slot : SlotId) (frame : ℕ) (lease : ReadToken) → IsLeaseOf told slot frame lease → refusal_of told by (call.DetachRead lease) ≡ refusal_of told nobody (call.DetachRead (lease_of told slot frame))
unfolding tests
detach_same told by slot frame lease is_lease =
    ap₂ (λ (s : SlotId) (n : ℕ). refusal_of told by (call.DetachRead (record { slot = s; frame = n; held = lease.held; picture = lease.picture; crop = lease.crop; fence = no_points }))) is_lease.slot is_lease.frame
    ∙ buffer_same told slot frame lease is_lease

pub release_refused : {R : Type 0} (q : Queue R) (slot : SlotId) (frame : ℕ) (fence : Fence) (cause : QStatus) → Some cause ≡ refusal_of (told_of q) nobody (call.DetachRead (lease_of (told_of q) slot frame)) → (by : ActorId) (lease : ReadToken) → IsLeaseOf (told_of q) slot frame lease → Continues q q by (call.Release lease fence) (reply.Refused cause)
release_refused q slot frame fence cause met by lease is_lease = Continues-refused q by (call.Release lease fence) cause (release_same (told_of q) by slot frame fence lease is_lease ∙ sym met)

pub release_done : {R : Type 0} (q after : Queue R) (slot : SlotId) (frame : ℕ) (right : R) (fence : Fence) → IsSound q → None ≡ refusal_of (told_of q) nobody (call.DetachRead (lease_of (told_of q) slot frame)) → after ≡ returned q slot.0 right fence → (by : ActorId) (lease : ReadToken) → IsLeaseOf (told_of q) slot frame lease → Continues q after by (call.Release lease fence) reply.Done
release_done q after slot frame right fence sound none left by lease is_lease =
    go_to q after (returned q lease.slot.0 right fence) (Continues-Release q by lease right fence sound (release_same (told_of q) by slot frame fence lease is_lease ∙ sym none)) (left ∙ ap (λ (s : SlotId). returned q s.0 right fence) (sym is_lease.slot))

pub detach_refused : {R : Type 0} (q : Queue R) (slot : SlotId) (frame : ℕ) (cause : QStatus) → Some cause ≡ refusal_of (told_of q) nobody (call.DetachRead (lease_of (told_of q) slot frame)) → (by : ActorId) (lease : ReadToken) → IsLeaseOf (told_of q) slot frame lease → Continues q q by (call.DetachRead lease) (reply.Refused cause)
detach_refused q slot frame cause met by lease is_lease = Continues-refused q by (call.DetachRead lease) cause (detach_same (told_of q) by slot frame lease is_lease ∙ sym met)

pub detach_done : {R : Type 0} (q after : Queue R) (slot : SlotId) (frame : ℕ) → IsSound q → None ≡ refusal_of (told_of q) nobody (call.DetachRead (lease_of (told_of q) slot frame)) → after ≡ cleared q slot.0 → (by : ActorId) (lease : ReadToken) → IsLeaseOf (told_of q) slot frame lease → Continues q after by (call.DetachRead lease) reply.Done
detach_done q after slot frame sound none left by lease is_lease =
    go_to q after (cleared q lease.slot.0) (Continues-DetachRead q by lease sound (detach_same (told_of q) by slot frame lease is_lease ∙ sym none)) (left ∙ ap (λ (s : SlotId). cleared q s.0) (sym is_lease.slot))

pub attach_done : {R : Type 0} (q after : Queue R) (width height : ℕ) (slot : SlotId) (held : Held) → IsSound q → None ≡ refusal_of (told_of q) nobody (call.AttachRead (record { number = 0; width = width; height = height })) → slot_for false (told_of q) ≡ Some slot.0 → (slot_in q slot.0).state ≡ Free → held ≡ next_held q width height → after ≡ seated (taken q slot.0) slot.0 width height false → (by : ActorId) (number : ℕ) → Continues q after by (call.AttachRead (record { number = number; width = width; height = height })) (reply.Attached slot held)
attach_done {R} q after width height slot held sound none chosen free new left by number =
    let asked : PlainCall = call.AttachRead (record { number = number; width = width; height = height }) in
    let going = Continues-AttachRead q by (record { number = number; width = width; height = height }) slot sound (sym none) chosen free in
    go_to q after (seated (taken q slot.0) slot.0 width height false) (subst (λ (h : Held). Continues q (seated (taken q slot.0) slot.0 width height false) by asked (reply.Attached slot h)) (sym new) going) left

pub max_acquired_done : {R : Type 0} (q after : Queue R) (n : ℕ) → IsSound q → None ≡ refusal_of (told_of q) nobody (call.MaxAcquired n) → after ≡ configured q (record q.settings { max_acquired = n }) → (by : ActorId) → Continues q after by (call.MaxAcquired n) reply.Done
max_acquired_done q after n sound none left by = go_to q after (configured q (record q.settings { max_acquired = n })) (Continues-MaxAcquired q by n sound (sym none)) left

pub abandon_done : {R : Type 0} (q after : Queue R) → IsSound q → None ≡ refusal_of (told_of q) nobody call.Abandon → after ≡ given_up q → (by : ActorId) → Continues q after by call.Abandon reply.Done
abandon_done q after sound none left by = go_to q after (given_up q) (Continues-Abandon q by sound (sym none)) left

pub acquire_done : {R : Type 0} (q after : Queue R) (expected : ℕ) (item : Item R) (dropped : ℕ) → IsSound q → None ≡ refusal_of (told_of q) nobody (call.Acquire expected) → dropped ≡ dropped_count expected (told_of q).items → slice_get (dropped_first dropped q).items 0 ≡ Some item → after ≡ handed_over (dropped_first dropped q) item → (by : ActorId) → Continues q after by (call.Acquire expected) (reply.Acquired (plain_item item) dropped)
acquire_done q after expected item dropped sound none counted first left by = go_to q after (handed_over (dropped_first dropped q) item) (Continues-Acquire q by expected item dropped sound (sym none) counted first) left
