-- A history goes on with the calls on one slot.
use Rattle.std.proofs.Common.{◌≡◌, ℕ, ◌+◌, Bool, true, false, not, ◌==◌, nat_le, List, [], ◌∷◌, ap, ◌∙◌, refl, Some, None, unwrap_or}
use Rattle.sf_base.specs.Fences.{Fence, no_points}
use Rattle.sf_base.specs.declared.ids.ActorId.{ActorId}
use Rattle.sf_base.specs.declared.ids.SlotId.{SlotId}
use Rattle.sf_base.specs.declared.status.QStatus.TheVariants as status
use Rattle.sf_slots.specs.declared.calls.PlainCall.TheVariants as call
use Rattle.sf_slots.specs.declared.calls.PlainReply.{PlainReply}
use Rattle.sf_slots.specs.declared.calls.PlainReply.TheVariants as reply
use Rattle.sf_slots.specs.declared.calls.ReadToken.{ReadToken}
use Rattle.sf_slots.specs.declared.calls.WriteToken.{WriteToken}
use Rattle.sf_slots.specs.declared.slot.Held.{Held}
use Rattle.sf_slots.specs.declared.slot.SlotState.TheVariants.{Free, Acquired}
use Rattle.sf_slots.specs.Told.{Told, slot_at, slot_for}
use Rattle.sf_slots.specs.Events.{Dequeuing, Producer}
use Rattle.sf_slots.specs.History.{events}
use Rattle.sf_slots.specs.Queue.{Queue, IsSound, told_of, slot_in, marked, returned, cleared, lent, taken, seated, next_held}
use Rattle.sf_slots.specs.Replies.{Refusal, first_met, refusal_of, is_taken, has_size, size_asked, dequeued_from}
use Rattle.sf_slots.specs.Tells.{Continues}
use Rattle.sf_slots.proofs.Tells.{Tells-lent, Tells-lent_new, Tells-taken_new, Tells-marked, Tells-returned, Tells-cleared}
use Rattle.sf_slots.proofs.HistoryGoesOn.{told_tells, go_on, not_refused, unmet, own_unmet, lent_there, taken_there, lent_is_out, taken_is_out}

pub Continues-Request : {R : Type 0} (q : Queue R) (caller : ActorId) (lease : WriteToken) → refusal_of (told_of q) caller (call.Request lease) ≡ None → Continues q (marked q lease.slot.0) caller (call.Request lease) (reply.Requested lease.held)
Continues-Request {R} q caller lease none =
    go_on q (marked q lease.slot.0) caller (call.Request lease) (reply.Requested lease.held) (not_refused (told_of q) caller (call.Request lease) (reply.Requested lease.held) none refl) (λ width height step history told. record {
      tells = Tells-marked (events history) (told_tells width height history told) lease.slot.0;
      settings = ap (λ (t : Told). t.settings) told;
    })

pub Continues-Cancel : {R : Type 0} (q : Queue R) (caller : ActorId) (lease : WriteToken) (right : R) (fence : Fence) → IsSound q → refusal_of (told_of q) caller (call.Cancel lease fence) ≡ None → Continues q (returned q lease.slot.0 right fence) caller (call.Cancel lease fence) reply.Done
Continues-Cancel {R} q caller lease right fence sound none =
    let out = lent_is_out (slot_in q lease.slot.0).state (lent_there (told_of q) lease.slot lease.held [] (own_unmet (told_of q) caller (call.Cancel lease fence) none)) in
    go_on q (returned q lease.slot.0 right fence) caller (call.Cancel lease fence) reply.Done (not_refused (told_of q) caller (call.Cancel lease fence) reply.Done none refl) (λ width height step history told. record {
      tells = Tells-returned (events history) sound (told_tells width height history told) lease.slot.0 right fence out;
      settings = ap (λ (t : Told). t.settings) told;
    })

pub Continues-Detach : {R : Type 0} (q : Queue R) (caller : ActorId) (lease : WriteToken) → IsSound q → refusal_of (told_of q) caller (call.Detach lease) ≡ None → Continues q (cleared q lease.slot.0) caller (call.Detach lease) reply.Done
Continues-Detach {R} q caller lease sound none =
    let requests : List Refusal = (not (slot_at (told_of q) lease.slot.0).requested, status.BadValue) ∷ [] in
    let out = lent_is_out (slot_in q lease.slot.0).state (lent_there (told_of q) lease.slot lease.held requests (own_unmet (told_of q) caller (call.Detach lease) none)) in
    go_on q (cleared q lease.slot.0) caller (call.Detach lease) reply.Done (not_refused (told_of q) caller (call.Detach lease) reply.Done none refl) (λ width height step history told. record {
      tells = Tells-cleared (events history) sound (told_tells width height history told) lease.slot.0 out.not_queued;
      settings = ap (λ (t : Told). t.settings) told;
    })

-- the slot of a read lease that may be given back is taken
read_taken : {R : Type 0} (q : Queue R) (lease : ReadToken) → first_met ((nat_le 64 lease.slot.0, status.BadValue) ∷ (not ((slot_at (told_of q) lease.slot.0).frame == lease.frame), status.Stale) ∷ (not (is_taken (told_of q) lease.slot lease.held), status.BadValue) ∷ []) ≡ None → (slot_in q lease.slot.0).state ≡ Acquired
read_taken {R} q lease none =
    let last : List Refusal = (not (is_taken (told_of q) lease.slot lease.held), status.BadValue) ∷ [] in
    let stale : List Refusal = (not ((slot_at (told_of q) lease.slot.0).frame == lease.frame), status.Stale) ∷ last in
    let second = (unmet (nat_le 64 lease.slot.0) status.BadValue stale none).1 in
    let third = (unmet (not ((slot_at (told_of q) lease.slot.0).frame == lease.frame)) status.Stale last second).1 in
    taken_there (told_of q) lease.slot lease.held [] third

pub Continues-Release : {R : Type 0} (q : Queue R) (caller : ActorId) (lease : ReadToken) (right : R) (fence : Fence) → IsSound q → refusal_of (told_of q) caller (call.Release lease fence) ≡ None → Continues q (returned q lease.slot.0 right fence) caller (call.Release lease fence) reply.Done
Continues-Release {R} q caller lease right fence sound none =
    let out = taken_is_out (slot_in q lease.slot.0).state (read_taken q lease (own_unmet (told_of q) caller (call.Release lease fence) none)) in
    go_on q (returned q lease.slot.0 right fence) caller (call.Release lease fence) reply.Done (not_refused (told_of q) caller (call.Release lease fence) reply.Done none refl) (λ width height step history told. record {
      tells = Tells-returned (events history) sound (told_tells width height history told) lease.slot.0 right fence out;
      settings = ap (λ (t : Told). t.settings) told;
    })

pub Continues-DetachRead : {R : Type 0} (q : Queue R) (caller : ActorId) (lease : ReadToken) → IsSound q → refusal_of (told_of q) caller (call.DetachRead lease) ≡ None → Continues q (cleared q lease.slot.0) caller (call.DetachRead lease) reply.Done
Continues-DetachRead {R} q caller lease sound none =
    let out = taken_is_out (slot_in q lease.slot.0).state (read_taken q lease (own_unmet (told_of q) caller (call.DetachRead lease) none)) in
    go_on q (cleared q lease.slot.0) caller (call.DetachRead lease) reply.Done (not_refused (told_of q) caller (call.DetachRead lease) reply.Done none refl) (λ width height step history told. record {
      tells = Tells-cleared (events history) sound (told_tells width height history told) lease.slot.0 out.not_queued;
      settings = ap (λ (t : Told). t.settings) told;
    })

-- a dequeue that finds a buffer of the size
pub Continues-Dequeue : {R : Type 0} (q : Queue R) (caller : ActorId) (width height : ℕ) (wait : Bool) (slot : SlotId) (held : Held) → IsSound q → refusal_of (told_of q) caller (call.Dequeue width height wait) ≡ None → slot_for true (told_of q) ≡ Some slot.0 → (slot_in q slot.0).state ≡ Free → (slot_in q slot.0).held ≡ Some held → has_size (Some held) (size_asked q.settings width height) ≡ true → Continues q (lent q slot.0) caller (call.Dequeue width height wait) (reply.Dequeued slot held (slot_in q slot.0).requested false (slot_in q slot.0).fence)
Continues-Dequeue {R} q caller width height wait slot held sound none chosen free here sized =
    let given : PlainReply = reply.Dequeued slot held (slot_in q slot.0).requested false (slot_in q slot.0).fence in
    let size : ℕ × ℕ = size_asked q.settings width height in
    let same : dequeued_from (told_of q) slot.0 size ≡ given = rw (here, sized) refl in
    go_on q (lent q slot.0) caller (call.Dequeue width height wait) given (not_refused (told_of q) caller (call.Dequeue width height wait) given none (ap (λ found. dequeued_from (told_of q) (unwrap_or found 0) size) chosen ∙ same)) (λ w h step history told. record {
      tells = Tells-lent (events history) sound (told_tells w h history told) slot.0 free;
      settings = ap (λ (t : Told). t.settings) told;
    })

-- a dequeue that makes a buffer
pub Continues-Dequeue_new : {R : Type 0} (q : Queue R) (caller : ActorId) (width height : ℕ) (wait : Bool) (slot : SlotId) → IsSound q → refusal_of (told_of q) caller (call.Dequeue width height wait) ≡ None → slot_for true (told_of q) ≡ Some slot.0 → (slot_in q slot.0).state ≡ Free → has_size (slot_in q slot.0).held (size_asked q.settings width height) ≡ false → Continues q (seated (lent q slot.0) slot.0 (size_asked q.settings width height).0 (size_asked q.settings width height).1 false) caller (call.Dequeue width height wait) (reply.Dequeued slot (next_held q (size_asked q.settings width height).0 (size_asked q.settings width height).1) false true no_points)
Continues-Dequeue_new {R} q caller width height wait slot sound none chosen free other =
    let size : ℕ × ℕ = size_asked q.settings width height in
    let given : PlainReply = reply.Dequeued slot (next_held q size.0 size.1) false true no_points in
    let same : dequeued_from (told_of q) slot.0 size ≡ given = rw other refl in
    go_on q (seated (lent q slot.0) slot.0 size.0 size.1 false) caller (call.Dequeue width height wait) given (not_refused (told_of q) caller (call.Dequeue width height wait) given none (ap (λ found. dequeued_from (told_of q) (unwrap_or found 0) size) chosen ∙ same)) (λ w h step history told. record {
      tells = Tells-lent_new (events history) sound (told_tells w h history told) slot.0 size.0 size.1 Dequeuing free (λ u. refl);
      settings = ap (λ (t : Told). record t.settings { buffers = t.settings.buffers + 1 }) told;
    })

pub Continues-Attach : {R : Type 0} (q : Queue R) (caller : ActorId) (held : Held) (slot : SlotId) → IsSound q → refusal_of (told_of q) caller (call.Attach held) ≡ None → slot_for false (told_of q) ≡ Some slot.0 → (slot_in q slot.0).state ≡ Free → Continues q (seated (lent q slot.0) slot.0 held.width held.height true) caller (call.Attach held) (reply.Attached slot (next_held q held.width held.height))
Continues-Attach {R} q caller held slot sound none chosen free =
    let new : Held = next_held q held.width held.height in
    go_on q (seated (lent q slot.0) slot.0 held.width held.height true) caller (call.Attach held) (reply.Attached slot new) (not_refused (told_of q) caller (call.Attach held) (reply.Attached slot new) none (ap (λ found. reply.Attached (record { 0 = unwrap_or found 0 }) new) chosen)) (λ w h step history told. record {
      tells = Tells-lent_new (events history) sound (told_tells w h history told) slot.0 held.width held.height Producer free (λ u. refl);
      settings = ap (λ (t : Told). record t.settings { buffers = t.settings.buffers + 1 }) told;
    })

pub Continues-AttachRead : {R : Type 0} (q : Queue R) (caller : ActorId) (held : Held) (slot : SlotId) → IsSound q → refusal_of (told_of q) caller (call.AttachRead held) ≡ None → slot_for false (told_of q) ≡ Some slot.0 → (slot_in q slot.0).state ≡ Free → Continues q (seated (taken q slot.0) slot.0 held.width held.height false) caller (call.AttachRead held) (reply.Attached slot (next_held q held.width held.height))
Continues-AttachRead {R} q caller held slot sound none chosen free =
    let new : Held = next_held q held.width held.height in
    go_on q (seated (taken q slot.0) slot.0 held.width held.height false) caller (call.AttachRead held) (reply.Attached slot new) (not_refused (told_of q) caller (call.AttachRead held) (reply.Attached slot new) none (ap (λ found. reply.Attached (record { 0 = unwrap_or found 0 }) new) chosen)) (λ w h step history told. record {
      tells = Tells-taken_new (events history) sound (told_tells w h history told) slot.0 held.width held.height free;
      settings = ap (λ (t : Told). record t.settings { buffers = t.settings.buffers + 1 }) told;
    })
