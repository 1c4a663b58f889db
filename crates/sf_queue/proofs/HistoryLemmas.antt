-- A history that tells of a queue goes on with the producer's calls.
use Rattle.std.proofs.Common.{◌≡◌, ℕ, ◌+◌, Bool, true, false, not, ◌&&◌, ap, ap₂, ◌∙◌, sym, refl, subst, Some, None}
use Rattle.std.specs.Prelude.{is_none, unwrap_or}
use Rattle.sf_base.specs.Fences.{Fence, no_points}
use Rattle.sf_base.specs.declared.ids.ActorId.{ActorId}
use Rattle.sf_base.specs.declared.ids.SlotId.{SlotId}
use Rattle.sf_slots.specs.declared.calls.PlainCall.{PlainCall}
use Rattle.sf_slots.specs.declared.calls.PlainCall.TheVariants as call
use Rattle.sf_slots.specs.declared.calls.PlainReply.{PlainReply}
use Rattle.sf_slots.specs.declared.calls.PlainReply.TheVariants as reply
use Rattle.sf_slots.specs.declared.calls.WriteToken.{WriteToken}
use Rattle.sf_slots.specs.declared.slot.Held.{Held}
use Rattle.sf_slots.specs.declared.slot.SlotState.TheVariants.{Free}
use Rattle.sf_slots.specs.Queue.{Queue, IsSound, told_of, slot_in, marked, returned, cleared, lent, seated, next_held, enqueued, configured}
use Rattle.sf_slots.specs.Effects.{disconnected, nobody}
use Rattle.sf_slots.specs.Replies.{refusal_of, size_asked, has_size}
use Rattle.sf_slots.specs.Tells.{Continues}
use Rattle.sf_slots.specs.Told.{Told, slot_at, slot_for}
use Rattle.sf_slots.proofs.GoingLeases.{Continues-Request, Continues-Cancel, Continues-Detach, Continues-Dequeue, Continues-Dequeue_new, Continues-Attach}
use Rattle.sf_slots.proofs.GoingItems.{Continues-Queue}
use Rattle.sf_slots.proofs.GoingSettings.{Continues-Disconnect, Continues-MaxDequeued, Continues-Async}
use Rattle.sf_queue.specs.declared.queueing.QueueOrder.{QueueOrder}
use Rattle.sf_queue.specs.Leases.{lease_of, IsLeaseOf}
use Rattle.sf_queue.specs.Lending.{takes_fresh, wants_buffer}
use Rattle.sf_queue.specs.Orders.{queue_call, order_call, call_of, item_of}
use Rattle.std.proofs.Common.{Option, List, [], ◌∷◌, ◌⊎◌, inl, inr, arith, ◌==◌}
use Rattle.std.proofs.lemmas.Bool.{cases_Bool}
use Rattle.std.proofs.lemmas.Bool.Decides.{nat_tests}
use Rattle.sf_base.specs.declared.status.QStatus.{QStatus}
use Rattle.sf_base.specs.declared.status.QStatus.TheVariants.{NoInit, BadValue}
use Rattle.sf_slots.specs.declared.slot.SlotState.TheVariants.{Dequeued}
use Rattle.sf_slots.specs.Replies.{Refusal, first_met, is_producer, is_lent, is_buffer, is_crop_of}
use Rattle.sf_slots.specs.Told.{is_in}
use Rattle.sf_slots.proofs.HistoryGoesOn.{Continues-refused, unmet, own_unmet}
use Rattle.sf_queue.specs.Leases.{meant, numbered}
use Rattle.sf_queue.proofs.LeaseLemmas.{numbered-met, is_buffer-numbered}

-- the queue after a call, under another name
pub go_to : {R : Type 0} {by : ActorId} {asked : PlainCall} {given : PlainReply} (q after left : Queue R) → Continues q left by asked given → after ≡ left → Continues q after by asked given
go_to {R} {by} {asked} {given} q after left going same = subst (λ (p : Queue R). Continues q p by asked given) (sym same) going

not_buffer : (found : Option Held) (number : ℕ) (held : Held) → held.number ≡ number → ((h : Held) → found ≡ Some h → h.number ≡ number → held ≡ h) → (held ≡ numbered found number) ⊎ ((is_buffer found held ≡ false) × (is_buffer found (numbered found number) ≡ false))
not_buffer None number held same whole = inr (refl, refl)
not_buffer (Some h) number held same whole = elim (cases_Bool (h.number == number)) [
  | inl met ↦
      let alike : h.number ≡ number = grind (arith, nat_tests, met) in
      inl (whole h refl alike ∙ numbered-met h number met)
  | inr unmet ↦
      let other : (h.number == held.number) ≡ false = ap (λ n. h.number == n) same ∙ unmet in
      let apart : is_buffer (Some h) held ≡ false = rw other refl in
      inr (apart, is_buffer-numbered h number ∙ unmet)
]

neither : (a b : Bool) → b ≡ false → (a && b) ≡ false
neither true b none = none
neither false b none = refl

-- a lease's buffer is the one that is meant, or the slot is lent with neither
lease_cases : (told : Told) (slot : SlotId) (number : ℕ) (lease : WriteToken) → IsLeaseOf told slot number lease → (lease.held ≡ meant told slot number) ⊎ ((is_lent told lease.slot lease.held ≡ false) × (is_lent told slot (meant told slot number) ≡ false))
lease_cases told slot number lease is_lease = elim (not_buffer (slot_at told slot.0).held number lease.held is_lease.numbered is_lease.whole) [
  | inl same ↦ inl same
  | inr none ↦ inr (
    ap (λ (s : SlotId). is_lent told s lease.held) is_lease.slot ∙ neither (is_in Dequeued (slot_at told slot.0)) (is_buffer (slot_at told slot.0).held lease.held) none.0,
    neither (is_in Dequeued (slot_at told slot.0)) (is_buffer (slot_at told slot.0).held (meant told slot number)) none.1,
  )
]

-- calls on a slot that is not lent with their buffer are refused alike
unlent_same : (told : Told) (by : ActorId) (a b : Bool) (more rest : List Refusal) → a ≡ false → b ≡ false → first_met ((told.settings.abandoned, NoInit) ∷ (not (is_producer told.settings.connected by), NoInit) ∷ (not a, BadValue) ∷ more) ≡ first_met ((told.settings.abandoned, NoInit) ∷ (not (is_producer told.settings.connected by), NoInit) ∷ (not b, BadValue) ∷ rest)
unlent_same told by a b more rest unlent neither = rw (unlent, neither) refl

-- a lease is refused as the slot and the buffer that it means
cancel_same : (told : Told) (by : ActorId) (slot : SlotId) (buffer : ℕ) (fence : Fence) (lease : WriteToken) → IsLeaseOf told slot buffer lease → refusal_of told by (call.Cancel lease fence) ≡ refusal_of told by (call.Cancel (lease_of told slot buffer) no_points)
cancel_same told by slot buffer fence lease is_lease = elim (lease_cases told slot buffer lease is_lease) [
  | inl same ↦ ap₂ (λ (s : SlotId) (h : Held). refusal_of told by (call.Cancel (record { slot = s; held = h; requested = false; fence = no_points; drawn = false }) fence)) is_lease.slot same
  | inr none ↦ unlent_same told by (is_lent told lease.slot lease.held) (is_lent told slot (meant told slot buffer)) [] [] none.0 none.1
]

request_same : (told : Told) (by : ActorId) (slot : SlotId) (buffer : ℕ) (lease : WriteToken) → IsLeaseOf told slot buffer lease → refusal_of told by (call.Request lease) ≡ refusal_of told by (call.Cancel (lease_of told slot buffer) no_points)
request_same told by slot buffer lease is_lease = elim (lease_cases told slot buffer lease is_lease) [
  | inl same ↦ ap₂ (λ (s : SlotId) (h : Held). refusal_of told by (call.Request (record { slot = s; held = h; requested = false; fence = no_points; drawn = false }))) is_lease.slot same
  | inr none ↦ unlent_same told by (is_lent told lease.slot lease.held) (is_lent told slot (meant told slot buffer)) [] [] none.0 none.1
]

detach_same : (told : Told) (by : ActorId) (slot : SlotId) (buffer : ℕ) (lease : WriteToken) → IsLeaseOf told slot buffer lease → refusal_of told by (call.Detach lease) ≡ refusal_of told by (call.Detach (lease_of told slot buffer))
detach_same told by slot buffer lease is_lease = elim (lease_cases told slot buffer lease is_lease) [
  | inl same ↦ ap₂ (λ (s : SlotId) (h : Held). refusal_of told by (call.Detach (record { slot = s; held = h; requested = false; fence = no_points; drawn = false }))) is_lease.slot same
  | inr none ↦ unlent_same told by (is_lent told lease.slot lease.held) (is_lent told slot (meant told slot buffer))
      ((not (slot_at told lease.slot.0).requested, BadValue) ∷ []) ((not (slot_at told slot.0).requested, BadValue) ∷ []) none.0 none.1
]

-- the tests of a queue call behind that of its lease
later_tests : {R : Type 0} → Told → QueueOrder R → SlotId → Held → List Refusal
later_tests told order slot held =
    (not (slot_at told slot.0).requested, BadValue) ∷ (not ((order.width == held.width) && (order.height == held.height)), BadValue) ∷ (not (is_crop_of held order.crop), BadValue) ∷ []

queue_same : {R : Type 0} (told : Told) (by : ActorId) (order : QueueOrder R) (lease : WriteToken) → IsLeaseOf told order.slot order.buffer lease → refusal_of told by (call_of order lease) ≡ refusal_of told by (queue_call (lease_of told order.slot order.buffer) order.width order.height order.crop)
unfolding later_tests
queue_same told by order lease is_lease = elim (lease_cases told order.slot order.buffer lease is_lease) [
  | inl same ↦ ap₂ (λ (s : SlotId) (h : Held). refusal_of told by (call_of order (record { slot = s; held = h; requested = false; fence = no_points; drawn = false }))) is_lease.slot same
  | inr none ↦ unlent_same told by (is_lent told lease.slot lease.held) (is_lent told order.slot (meant told order.slot order.buffer))
      (later_tests told order lease.slot lease.held) (later_tests told order order.slot (meant told order.slot order.buffer)) none.0 none.1
]

-- a lease that queues has the buffer that is meant
queued_buffer : {R : Type 0} (told : Told) (by : ActorId) (order : QueueOrder R) (lease : WriteToken) → IsLeaseOf told order.slot order.buffer lease → refusal_of told by (queue_call (lease_of told order.slot order.buffer) order.width order.height order.crop) ≡ None → meant told order.slot order.buffer ≡ lease.held
unfolding later_tests
queued_buffer told by order lease is_lease none = elim (lease_cases told order.slot order.buffer lease is_lease) [
  | inl same ↦ sym same
  | inr neither ↦
      let lent = unmet (not (is_lent told order.slot (meant told order.slot order.buffer))) BadValue (later_tests told order order.slot (meant told order.slot order.buffer)) (own_unmet told by (queue_call (lease_of told order.slot order.buffer) order.width order.height order.crop) none) in
      absurd (cc (lent.0, ap not neither.1))
]

-- a frame that may be queued comes from a lent slot
pub allowed_lent : {R : Type 0} (told : Told) (by : ActorId) (order : QueueOrder R) → refusal_of told by (order_call told order) ≡ None → refusal_of told by (call.Cancel (lease_of told order.slot order.buffer) no_points) ≡ None
unfolding later_tests
allowed_lent told by order none =
    let lent_test = not (is_lent told order.slot (meant told order.slot order.buffer)) in
    let own = (lent_test, BadValue) ∷ later_tests told order order.slot (meant told order.slot order.buffer) in
    let first = unmet told.settings.abandoned NoInit ((not (is_producer told.settings.connected by), NoInit) ∷ own) none in
    let second = unmet (not (is_producer told.settings.connected by)) NoInit own first.1 in
    let third = unmet lent_test BadValue (later_tests told order order.slot (meant told order.slot order.buffer)) second.1 in
    rw (first.0, second.0, third.0) refl

pub request_refused : {R : Type 0} (q : Queue R) (by : ActorId) (slot : SlotId) (buffer : ℕ) (cause : QStatus) → Some cause ≡ refusal_of (told_of q) by (call.Cancel (lease_of (told_of q) slot buffer) no_points) → (lease : WriteToken) → IsLeaseOf (told_of q) slot buffer lease → Continues q q by (call.Request lease) (reply.Refused cause)
request_refused q by slot buffer cause met lease is_lease = Continues-refused q by (call.Request lease) cause (request_same (told_of q) by slot buffer lease is_lease ∙ sym met)

pub cancel_refused : {R : Type 0} (q : Queue R) (by : ActorId) (slot : SlotId) (buffer : ℕ) (fence : Fence) (cause : QStatus) → Some cause ≡ refusal_of (told_of q) by (call.Cancel (lease_of (told_of q) slot buffer) no_points) → (lease : WriteToken) → IsLeaseOf (told_of q) slot buffer lease → Continues q q by (call.Cancel lease fence) (reply.Refused cause)
cancel_refused q by slot buffer fence cause met lease is_lease = Continues-refused q by (call.Cancel lease fence) cause (cancel_same (told_of q) by slot buffer fence lease is_lease ∙ sym met)

pub detach_refused : {R : Type 0} (q : Queue R) (by : ActorId) (slot : SlotId) (buffer : ℕ) (cause : QStatus) → Some cause ≡ refusal_of (told_of q) by (call.Detach (lease_of (told_of q) slot buffer)) → (lease : WriteToken) → IsLeaseOf (told_of q) slot buffer lease → Continues q q by (call.Detach lease) (reply.Refused cause)
detach_refused q by slot buffer cause met lease is_lease = Continues-refused q by (call.Detach lease) cause (detach_same (told_of q) by slot buffer lease is_lease ∙ sym met)

pub queue_refused : {R : Type 0} (q : Queue R) (by : ActorId) (order : QueueOrder R) (cause : QStatus) → Some cause ≡ refusal_of (told_of q) by (queue_call (lease_of (told_of q) order.slot order.buffer) order.width order.height order.crop) → (lease : WriteToken) → IsLeaseOf (told_of q) order.slot order.buffer lease → Continues q q by (call_of order lease) (reply.Refused cause)
queue_refused q by order cause met lease is_lease = Continues-refused q by (call_of order lease) cause (queue_same (told_of q) by order lease is_lease ∙ sym met)

pub request_done : {R : Type 0} (q after : Queue R) (by : ActorId) (slot : SlotId) (buffer : ℕ) → None ≡ refusal_of (told_of q) by (call.Cancel (lease_of (told_of q) slot buffer) no_points) → after ≡ marked q slot.0 → (lease : WriteToken) → IsLeaseOf (told_of q) slot buffer lease → Continues q after by (call.Request lease) (reply.Requested lease.held)
request_done q after by slot buffer none left lease is_lease =
    go_to q after (marked q lease.slot.0) (Continues-Request q by lease (request_same (told_of q) by slot buffer lease is_lease ∙ sym none)) (left ∙ ap (λ (s : SlotId). marked q s.0) (sym is_lease.slot))

pub cancel_done : {R : Type 0} (q after : Queue R) (by : ActorId) (slot : SlotId) (buffer : ℕ) (right : R) (fence : Fence) → IsSound q → None ≡ refusal_of (told_of q) by (call.Cancel (lease_of (told_of q) slot buffer) no_points) → after ≡ returned q slot.0 right fence → (lease : WriteToken) → IsLeaseOf (told_of q) slot buffer lease → Continues q after by (call.Cancel lease fence) reply.Done
cancel_done q after by slot buffer right fence sound none left lease is_lease =
    go_to q after (returned q lease.slot.0 right fence) (Continues-Cancel q by lease right fence sound (cancel_same (told_of q) by slot buffer fence lease is_lease ∙ sym none)) (left ∙ ap (λ (s : SlotId). returned q s.0 right fence) (sym is_lease.slot))

pub detach_done : {R : Type 0} (q after : Queue R) (by : ActorId) (slot : SlotId) (buffer : ℕ) → IsSound q → None ≡ refusal_of (told_of q) by (call.Detach (lease_of (told_of q) slot buffer)) → after ≡ cleared q slot.0 → (lease : WriteToken) → IsLeaseOf (told_of q) slot buffer lease → Continues q after by (call.Detach lease) reply.Done
detach_done q after by slot buffer sound none left lease is_lease =
    go_to q after (cleared q lease.slot.0) (Continues-Detach q by lease sound (detach_same (told_of q) by slot buffer lease is_lease ∙ sym none)) (left ∙ ap (λ (s : SlotId). cleared q s.0) (sym is_lease.slot))

pub queue_done : {R : Type 0} (q after : Queue R) (by : ActorId) (order : QueueOrder R) → IsSound q → None ≡ refusal_of (told_of q) by (queue_call (lease_of (told_of q) order.slot order.buffer) order.width order.height order.crop) → after ≡ enqueued q (item_of q order) → (lease : WriteToken) → IsLeaseOf (told_of q) order.slot order.buffer lease → Continues q after by (call_of order lease) (reply.Queued (q.settings.frames + 1))
queue_done q after by order sound none left lease is_lease =
    go_to q after (enqueued q (item_of q order)) (Continues-Queue q by lease order.width order.height (item_of q order) sound (queue_same (told_of q) by order lease is_lease ∙ sym none) (sym is_lease.slot) (queued_buffer (told_of q) by order lease is_lease (sym none)) refl refl) left

pub disconnect_done : {R : Type 0} (q after : Queue R) (by : ActorId) → IsSound q → None ≡ refusal_of (told_of q) by call.Disconnect → after ≡ disconnected q → Continues q after by call.Disconnect reply.Done
disconnect_done q after by sound none left = go_to q after (disconnected q) (Continues-Disconnect q by sound (sym none)) left

pub max_dequeued_done : {R : Type 0} (q after : Queue R) (n : ℕ) → IsSound q → None ≡ refusal_of (told_of q) nobody (call.MaxDequeued n) → after ≡ configured q (record q.settings { max_dequeued = n }) → (by : ActorId) → Continues q after by (call.MaxDequeued n) reply.Done
max_dequeued_done q after n sound none left by = go_to q after (configured q (record q.settings { max_dequeued = n })) (Continues-MaxDequeued q by n sound (sym none)) left

pub async_done : {R : Type 0} (q after : Queue R) (on : Bool) → IsSound q → None ≡ refusal_of (told_of q) nobody (call.Async on) → after ≡ configured q (record q.settings { asynchronous = on }) → (by : ActorId) → Continues q after by (call.Async on) reply.Done
async_done q after on sound none left by = go_to q after (configured q (record q.settings { asynchronous = on })) (Continues-Async q by on sound (sym none)) left

pub attach_done : {R : Type 0} (q after : Queue R) (by : ActorId) (width height : ℕ) (slot : SlotId) (held : Held) → IsSound q → None ≡ refusal_of (told_of q) by (call.Attach (record { number = 0; width = width; height = height })) → slot_for false (told_of q) ≡ Some slot.0 → (slot_in q slot.0).state ≡ Free → held ≡ next_held q width height → after ≡ seated (lent q slot.0) slot.0 width height true → (number : ℕ) → Continues q after by (call.Attach (record { number = number; width = width; height = height })) (reply.Attached slot held)
attach_done {R} q after by width height slot held sound none chosen free new left number =
    let asked : PlainCall = call.Attach (record { number = number; width = width; height = height }) in
    let going = Continues-Attach q by (record { number = number; width = width; height = height }) slot sound (sym none) chosen free in
    go_to q after (seated (lent q slot.0) slot.0 width height true) (subst (λ (h : Held). Continues q (seated (lent q slot.0) slot.0 width height true) by asked (reply.Attached slot h)) (sym new) going) left

right_of_both : (a b : Bool) → true ≡ (a && not b) → b ≡ false
right_of_both true true both = absurd (cc (both))
right_of_both true false both = refl
right_of_both false b both = absurd (cc (both))

right_of_none : (a b : Bool) → a ≡ true → false ≡ (a && not b) → b ≡ true
right_of_none true true left none = refl
right_of_none true false left none = absurd (cc (none))
right_of_none false b left none = absurd (cc (left))

-- a dequeue that is not refused takes a new buffer where it wants one
pub fresh_where_wanted : (told : Told) (by : ActorId) (width height : ℕ) → refusal_of told by (call.Dequeue width height false) ≡ None → takes_fresh told by width height ≡ wants_buffer told width height
fresh_where_wanted told by width height none = ap (λ cause. is_none cause && wants_buffer told width height) none

-- the size of the slot's buffer, where a new one is wanted, and where none is
pub wants_new : {R : Type 0} (q : Queue R) (by : ActorId) (width height : ℕ) (slot : SlotId) → slot_for true (told_of q) ≡ Some slot.0 → true ≡ takes_fresh (told_of q) by width height → has_size (slot_in q slot.0).held (size_asked q.settings width height) ≡ false
wants_new q by width height slot chosen wanted =
    ap (λ found. has_size (slot_at (told_of q) (unwrap_or found 0)).held (size_asked q.settings width height)) (sym chosen)
    ∙ right_of_both (is_none (refusal_of (told_of q) by (call.Dequeue width height false))) (has_size (slot_at (told_of q) (unwrap_or (slot_for true (told_of q)) 0)).held (size_asked q.settings width height)) wanted

pub wants_none : {R : Type 0} (q : Queue R) (by : ActorId) (width height : ℕ) (slot : SlotId) (held : Held) → None ≡ refusal_of (told_of q) by (call.Dequeue width height false) → slot_for true (told_of q) ≡ Some slot.0 → (slot_in q slot.0).held ≡ Some held → false ≡ takes_fresh (told_of q) by width height → has_size (Some held) (size_asked q.settings width height) ≡ true
wants_none q by width height slot held none chosen here wanted =
    ap (λ found. has_size found (size_asked q.settings width height)) (sym here)
    ∙ ap (λ found. has_size (slot_at (told_of q) (unwrap_or found 0)).held (size_asked q.settings width height)) (sym chosen)
    ∙ right_of_none (is_none (refusal_of (told_of q) by (call.Dequeue width height false))) (has_size (slot_at (told_of q) (unwrap_or (slot_for true (told_of q)) 0)).held (size_asked q.settings width height)) (ap is_none (sym none)) wanted

pub dequeue_reused : {R : Type 0} (q after : Queue R) (by : ActorId) (width height : ℕ) (slot : SlotId) (held : Held) (fence : Fence) → IsSound q → None ≡ refusal_of (told_of q) by (call.Dequeue width height false) → slot_for true (told_of q) ≡ Some slot.0 → (slot_in q slot.0).state ≡ Free → (slot_in q slot.0).held ≡ Some held → has_size (Some held) (size_asked q.settings width height) ≡ true → fence ≡ (slot_in q slot.0).fence → after ≡ lent q slot.0 → (wait : Bool) → Continues q after by (call.Dequeue width height wait) (reply.Dequeued slot held (slot_in q slot.0).requested false fence)
dequeue_reused {R} q after by width height slot held fence sound none chosen free here sized kept left wait =
    let going = Continues-Dequeue q by width height wait slot held sound (sym none) chosen free here sized in
    go_to q after (lent q slot.0) (subst (λ (f : Fence). Continues q (lent q slot.0) by (call.Dequeue width height wait) (reply.Dequeued slot held (slot_in q slot.0).requested false f)) (sym kept) going) left

pub dequeue_renewed : {R : Type 0} (q after : Queue R) (by : ActorId) (width height : ℕ) (slot : SlotId) (held : Held) (fence : Fence) → IsSound q → None ≡ refusal_of (told_of q) by (call.Dequeue width height false) → slot_for true (told_of q) ≡ Some slot.0 → (slot_in q slot.0).state ≡ Free → has_size (slot_in q slot.0).held (size_asked q.settings width height) ≡ false → fence ≡ no_points → held ≡ next_held q (size_asked q.settings width height).0 (size_asked q.settings width height).1 → after ≡ seated (lent q slot.0) slot.0 (size_asked q.settings width height).0 (size_asked q.settings width height).1 false → (wait : Bool) → Continues q after by (call.Dequeue width height wait) (reply.Dequeued slot held false true fence)
dequeue_renewed {R} q after by width height slot held fence sound none chosen free other bare new left wait =
    let size : ℕ × ℕ = size_asked q.settings width height in
    let renewed : Queue R = seated (lent q slot.0) slot.0 size.0 size.1 false in
    let going = Continues-Dequeue_new q by width height wait slot sound (sym none) chosen free other in
    go_to q after renewed (subst (λ (f : Fence). Continues q renewed by (call.Dequeue width height wait) (reply.Dequeued slot held false true f)) (sym bare) (subst (λ (h : Held). Continues q renewed by (call.Dequeue width height wait) (reply.Dequeued slot h false true no_points)) (sym new) going)) left
