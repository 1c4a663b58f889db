-- What the history before a call says of the slot that it is made on.
use Rattle.std.proofs.Common.{◌≡◌, ℕ, ◌+◌, ◌<◌, ◌≤◌, Bool, true, false, ◌==◌, ◌&&◌, not, is_some, List, [], ◌∷◌, length, arith, ap, ◌∙◌, sym, refl, map, inl, inr, subst, Option, Some, None, take}
use Rattle.std.specs.Prelude.{is_none, nat_le, unwrap_or}
use Rattle.std.specs.List.{range_with_len}
use Rattle.std.specs.Option.{option_or}
use Rattle.std.proofs.lemmas.Bool.{cases_lt, false≢true}
use Rattle.std.proofs.lemmas.Bool.Decides.{nat_tests}
use Rattle.std.proofs.lemmas.List.{get_or-take, length-take}
use Rattle.std.proofs.lemmas.List.Elements.{All-contains}
use Rattle.std.proofs.lemmas.List.FromFn.{get_or-map-range_with_len}
use Rattle.std.proofs.lemmas.List.Quantifiers.{position-Some}
use Rattle.std.proofs.Math.ListN.{get_or-eq_default}
use Rattle.sf_base.specs.declared.ids.ActorId.{ActorId}
use Rattle.sf_base.specs.declared.ids.SlotId.{SlotId}
use Rattle.sf_base.specs.Fences.{Fence}
use Rattle.sf_base.specs.declared.geometry.Rect.{Rect}
use Rattle.sf_base.specs.declared.status.QStatus.{QStatus}
use Rattle.sf_base.specs.declared.status.QStatus.TheVariants as status
use Rattle.sf_slots.specs.declared.calls.Entry.{Entry}
use Rattle.sf_slots.specs.declared.calls.PlainCall.{PlainCall}
use Rattle.sf_slots.specs.declared.calls.PlainCall.TheVariants as call
use Rattle.sf_slots.specs.declared.calls.PlainReply.{PlainReply}
use Rattle.sf_slots.specs.declared.calls.PlainReply.TheVariants as reply
use Rattle.sf_slots.specs.declared.calls.ReadToken.{ReadToken}
use Rattle.sf_slots.specs.declared.calls.WriteToken.{WriteToken}
use Rattle.sf_slots.specs.declared.item.PlainItem.{PlainItem}
use Rattle.sf_slots.specs.declared.slot.Held.{Held}
use Rattle.sf_slots.specs.declared.slot.Slot.{Slot}
use Rattle.sf_slots.specs.declared.slot.SlotState.TheVariants.{Free}
use Rattle.sf_slots.specs.Events.{frames_queued, freed_after, items_after}
use Rattle.sf_slots.specs.History.{events, slot_after, told_by}
use Rattle.sf_slots.specs.Replies.{acquired_item, dequeued_from, dropped_count, front_after_drops, given_by, has_size, is_crop_of, is_producer_full, is_taken, is_wrong_size, refusal_of, refused_or, reply_after, reply_told, size_asked}
use Rattle.sf_slots.specs.Told.{Told, first_freed, is_bare, is_in, lowest_bare, slot_at, slot_for, unused, usable}
use Rattle.sf_slots.proofs.HistoryGoesOn.{lent_there, own_unmet, unmet}
use Rattle.law_rights.specs.Slots.{is_home, is_home_after}
use Rattle.law_rights.proofs.Homes.{IsFreeAfter, WaitsQueued, freed_free, items_wait}
use Rattle.law_rights.proofs.RightPlaces.{got}

-- a reply that is no refusal is what the call gives
abbrev pub IsGiven : PlainReply → Type 0
IsGiven (reply.Refused cause) = ⊥
IsGiven given = Unit {0}

pub given_then : (told : Told) (caller : ActorId) (asked : PlainCall) (given : PlainReply) → reply_told told caller asked ≡ given → IsGiven given → (refusal_of told caller asked ≡ None) × (given_by told asked ≡ given)
given_then told caller asked given is done = by_refusal (refusal_of told caller asked) refl
  where
    by_refusal : (refusal : Option QStatus) → refusal_of told caller asked ≡ refusal → (refusal_of told caller asked ≡ None) × (given_by told asked ≡ given)
    by_refusal None none = (none, sym (ap (λ (r : Option QStatus). refused_or r (given_by told asked)) none) ∙ is)
    by_refusal (Some cause) some = absurd (subst IsGiven (sym (sym (ap (λ (r : Option QStatus). refused_or r (given_by told asked)) some) ∙ is)) done)

-- the slots as a history tells them
pub slot_told : (width height : ℕ) (history : List Entry) (s : ℕ) → s < 64 → slot_at (told_by width height history) s ≡ slot_after (events history) s
slot_told width height history s low = get_or-map-range_with_len (slot_after (events history)) 0 64 s s unused low (omega arith)

past_told : (width height : ℕ) (history : List Entry) (s : ℕ) → 64 ≤ s → slot_at (told_by width height history) s ≡ unused
past_told width height history s far = get_or-eq_default (map (slot_after (events history)) (range_with_len 0 64)) unused far

-- a slot that is not as an unused one is one of the 64
pub below_by_state : (width height : ℕ) (history : List Entry) (s : ℕ) → ((slot_at (told_by width height history) s).state ≡ Free → ⊥) → s < 64
below_by_state width height history s apart = elim (cases_lt s 64) [
  | inl low ↦ low
  | inr far ↦ absurd (apart (ap (λ (slot : Slot). slot.state) (past_told width height history s far)))
]

below_by_held : (width height : ℕ) (history : List Entry) (s : ℕ) → is_some (slot_at (told_by width height history) s).held ≡ true → s < 64
below_by_held width height history s there = elim (cases_lt s 64) [
  | inl low ↦ low
  | inr far ↦ absurd (cc (ap (λ (slot : Slot). is_some slot.held) (past_told width height history s far), there))
]

-- a lent slot, and one that is with the consumer
pub lent_below : (width height : ℕ) (history : List Entry) (caller : ActorId) (lease : WriteToken) (fence : Fence) → reply_after width height history caller (call.Cancel lease fence) ≡ reply.Done → lease.slot.0 < 64
lent_below width height history caller lease fence is =
    let given = given_then (told_by width height history) caller (call.Cancel lease fence) reply.Done is tt in
    let lent = lent_there (told_by width height history) lease.slot lease.held [] (own_unmet (told_by width height history) caller (call.Cancel lease fence) given.0) in
    below_by_state width height history lease.slot.0 (λ e. cc (lent, e))

pub queued_below : (width height : ℕ) (history : List Entry) (caller : ActorId) (lease : WriteToken) (picture wide high : ℕ) (time : Option ℕ) (crop : Rect) (fence : Fence) (frame : ℕ)
    → reply_after width height history caller (call.Queue lease picture wide high time crop fence) ≡ reply.Queued frame → (lease.slot.0 < 64) × (frame ≡ frames_queued (events history) + 1)
queued_below width height history caller lease picture wide high time crop fence frame is =
    let asked = call.Queue lease picture wide high time crop fence in
    let given = given_then (told_by width height history) caller asked (reply.Queued frame) is tt in
    let lent = lent_there (told_by width height history) lease.slot lease.held
    ((not (slot_at (told_by width height history) lease.slot.0).requested, status.BadValue) ∷ (not (wide == lease.held.width && high == lease.held.height), status.BadValue) ∷ (not (is_crop_of lease.held crop), status.BadValue) ∷ [])
    (own_unmet (told_by width height history) caller asked given.0) in
    (below_by_state width height history lease.slot.0 (λ e. cc (lent, e)), cc (given.1))

pub released_below : (width height : ℕ) (history : List Entry) (caller : ActorId) (lease : ReadToken) (fence : Fence) → reply_after width height history caller (call.Release lease fence) ≡ reply.Done → lease.slot.0 < 64
released_below width height history caller lease fence is =
    let given = given_then (told_by width height history) caller (call.Release lease fence) reply.Done is tt in
    let test = unmet (nat_le 64 lease.slot.0) status.BadValue
    ((not ((slot_at (told_by width height history) lease.slot.0).frame == lease.frame), status.Stale) ∷ (not (is_taken (told_by width height history) lease.slot lease.held), status.BadValue) ∷ [])
    (own_unmet (told_by width height history) caller (call.Release lease fence) given.0) in
    within test.0
  where
    within : nat_le 64 lease.slot.0 ≡ false → lease.slot.0 < 64
    within below = grind (arith, nat_tests, below)

-- an item that is acquired waited in its slot
pub acquired_waits : (width height : ℕ) (history : List Entry) (caller : ActorId) (expected : ℕ) (item : PlainItem) (dropped : ℕ) → reply_after width height history caller (call.Acquire expected) ≡ reply.Acquired item dropped → WaitsQueued (events history) item
acquired_waits width height history caller expected item dropped is =
    let told = told_by width height history in
    let given = given_then told caller (call.Acquire expected) (reply.Acquired item dropped) is tt in
    waits (front_after_drops expected told) refl given.1
  where
    waits : (front : Option PlainItem) → front_after_drops expected (told_by width height history) ≡ front → acquired_item (dropped_count expected (told_by width height history).items) (front_after_drops expected (told_by width height history)) ≡ reply.Acquired item dropped → WaitsQueued (events history) item
    waits None none is = absurd (cc (rw none at is))
    waits (Some found) some is =
        let same : found ≡ item = cc (rw some at is) in
        subst (WaitsQueued (events history)) same (All-contains (WaitsQueued (events history)) (items_after (events history)) found (items_wait (events history)) (got (items_after (events history)) (dropped_count expected (items_after (events history))) found some))

has_some : (held : Option Held) (size : ℕ × ℕ) → has_size held size ≡ true → is_some held ≡ true
has_some None size has = has
has_some (Some held) size has = refl

stored_home : (slot : Slot) → slot.state ≡ Free → is_some slot.held ≡ true → is_home slot ≡ true
stored_home slot free there = rw (free, there) refl

not_bare : (slot : Slot) → is_bare slot ≡ true → is_some slot.held ≡ true → ⊥
not_bare slot bare there = false≢true (sym (rw there (and_false (is_in Free slot))) ∙ bare)
  where
    and_false : (b : Bool) → (b && false) ≡ false
    and_false true = refl
    and_false false = refl

inside : (n : ℕ) (slots : List Slot) (i : ℕ) → i < length (take n slots) → i < n
inside n slots i low = omega (arith, low, length-take n slots)

-- the slot that a dequeue takes is free, if it has a buffer
taken_free : (width height : ℕ) (history : List Entry) (s : ℕ) → slot_for true (told_by width height history) ≡ Some s → is_some (slot_at (told_by width height history) s).held ≡ true → IsFreeAfter (events history) s
taken_free width height history s is there = by_freed (first_freed (told_by width height history)) refl
  where
    by_freed : (freed : Option ℕ) → first_freed (told_by width height history) ≡ freed → IsFreeAfter (events history) s
    by_freed (Some x) some =
        let same : x ≡ s = cc (sym (ap (λ (o : Option ℕ). option_or o (lowest_bare (told_by width height history))) some) ∙ is) in
        subst (IsFreeAfter (events history)) same (All-contains (IsFreeAfter (events history)) (freed_after (events history)) x (freed_free (events history)) (got (freed_after (events history)) 0 x some))
    by_freed None none =
        let told = told_by width height history in
        let bare : lowest_bare told ≡ Some s = sym (ap (λ (o : Option ℕ). option_or o (lowest_bare told)) none) ∙ is in
        let found = position-Some is_bare (take (usable told.settings) told.slots) s unused bare in
        let within = inside (usable told.settings) told.slots s found.0 in
        absurd (not_bare (slot_at told s) (subst (λ (slot : Slot). is_bare slot ≡ true) (get_or-take (usable told.settings) told.slots s unused within) found.1) there)

-- a buffer that is lent again lay in its slot
pub lent_again_home : (width height : ℕ) (history : List Entry) (caller : ActorId) (wide high : ℕ) (wait : Bool) (slot : SlotId) (held : Held) (requested : Bool) (fence : Fence)
    → reply_after width height history caller (call.Dequeue wide high wait) ≡ reply.Dequeued slot held requested false fence → (slot.0 < 64) × (is_home_after (events history) slot.0 ≡ true)
lent_again_home width height history caller wide high wait slot held requested fence is =
    let told = told_by width height history in
    let given = given_then told caller (call.Dequeue wide high wait) (reply.Dequeued slot held requested false fence) is tt in
    let own = own_unmet told caller (call.Dequeue wide high wait) given.0 in
    let first = unmet (is_wrong_size wide high) status.BadValue ((is_producer_full told, status.InvalidOperation) ∷ (is_none (slot_for true told), status.WouldBlock) ∷ []) own in
    let second = unmet (is_producer_full told) status.InvalidOperation ((is_none (slot_for true told), status.WouldBlock) ∷ []) first.1 in
    let third = unmet (is_none (slot_for true told)) status.WouldBlock [] second.1 in
    by_slot (slot_for true told) refl third.0 given.1
  where
    at_slot : (s : ℕ) → slot_for true (told_by width height history) ≡ Some s → dequeued_from (told_by width height history) s (size_asked (told_by width height history).settings wide high) ≡ reply.Dequeued slot held requested false fence
        → (slot.0 < 64) × (is_home_after (events history) slot.0 ≡ true)
    at_slot s some is = by_size (has_size (slot_at (told_by width height history) s).held (size_asked (told_by width height history).settings wide high)) refl
      where
        by_size : (has : Bool) → has_size (slot_at (told_by width height history) s).held (size_asked (told_by width height history).settings wide high) ≡ has → (slot.0 < 64) × (is_home_after (events history) slot.0 ≡ true)
        by_size false unmet = absurd (cc (rw unmet at is))
        by_size true met =
            let same : s ≡ slot.0 = cc (rw met at is) in
            let there = has_some (slot_at (told_by width height history) s).held (size_asked (told_by width height history).settings wide high) met in
            let low = below_by_held width height history s there in
            let here = slot_told width height history s low in
            subst (λ (t : ℕ). (t < 64) × (is_home_after (events history) t ≡ true)) same
            (low, stored_home (slot_after (events history) s) (taken_free width height history s some there) (subst (λ (x : Slot). is_some x.held ≡ true) here there))

    by_slot : (found : Option ℕ) → slot_for true (told_by width height history) ≡ found → is_none (slot_for true (told_by width height history)) ≡ false
        → dequeued_from (told_by width height history) (unwrap_or (slot_for true (told_by width height history)) 0) (size_asked (told_by width height history).settings wide high) ≡ reply.Dequeued slot held requested false fence
        → (slot.0 < 64) × (is_home_after (events history) slot.0 ≡ true)
    by_slot None none some is = absurd (cc (rw none at some))
    by_slot (Some s) found some is = at_slot s found (rw found at is)
