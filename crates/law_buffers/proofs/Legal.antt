-- The events of legal calls are such that new buffers come into slots in which no frame waits, and each frame is queued from a slot that has
-- its buffer.
use Rattle.std.proofs.Common.{◌≡◌, ℕ, ◌<◌, Bool, true, false, not, ◌==◌, ◌&&◌, List, [], ◌∷◌, ◌++◌, Option, Some, None, is_some, is_none, unwrap_or, map, filter, take, length, get_or, refl, sym, ap, subst, ◌∙◌, inl, inr, arith}
use Rattle.std.proofs.lemmas.Bool.{cases_lt}
use Rattle.std.proofs.lemmas.Bool.Decides.{nat_tests}
use Rattle.std.proofs.lemmas.List.{get_or-take, get_or_past, length-take}
use Rattle.std.proofs.lemmas.List.FromFn.{get_or-map-range_with_len}
use Rattle.std.proofs.lemmas.List.Quantifiers.{position-Some}
use Rattle.std.specs.Prelude.{◌⊎◌}
use Rattle.std.specs.Option.{option_or}
use Rattle.sf_base.specs.declared.ids.ActorId.{ActorId}
use Rattle.sf_base.specs.declared.ids.SlotId.{SlotId}
use Rattle.sf_base.specs.declared.status.QStatus.{QStatus}
use Rattle.sf_base.specs.declared.status.QStatus.TheVariants as status
use Rattle.sf_slots.specs.declared.calls.Entry.{Entry}
use Rattle.sf_slots.specs.declared.calls.PlainCall.{PlainCall}
use Rattle.sf_slots.specs.declared.calls.PlainCall.TheVariants as call
use Rattle.sf_slots.specs.declared.calls.PlainReply.{PlainReply}
use Rattle.sf_slots.specs.declared.calls.PlainReply.TheVariants as reply
use Rattle.sf_slots.specs.declared.item.PlainItem.{PlainItem}
use Rattle.sf_slots.specs.declared.slot.Held.{Held}
use Rattle.sf_slots.specs.declared.slot.Slot.{Slot}
use Rattle.sf_slots.specs.declared.slot.SlotState.TheVariants.{Free, Dequeued, Queued}
use Rattle.sf_slots.specs.Events.{Event, Make, Lend, Hand, Take, Back, Gone, Mark, Unmark, state_after, buffer_after, items_after}
use Rattle.sf_slots.specs.History.{all_slots, asynchronous, back_if, is_back_or_lent, max_acquired, max_dequeued, no_longer_usable, events, events_of, happening, kept_back, leaving, slot_after, told_by}
use Rattle.sf_slots.specs.Replies.{acquired_item, dequeued_from, dropped_count, front_after_drops, given_by, has_size, is_buffer, is_lent, is_producer_full, is_consumer_full, is_wrong_size, is_crop_of, refusal_of, refused_or, same_buffer, size_asked}
use Rattle.sf_slots.specs.Tells.{AreReplies}
use Rattle.sf_slots.specs.Told.{first_freed, is_bare, is_in, lowest_bare, slot_at, slot_for, replaced_slot, same_state, unused, usable, usable_with}
use Rattle.sf_slots.proofs.HistoryGoesOn.{own_unmet, unmet}
use Rattle.sf_slots.proofs.Lists.{free_state}
use Rattle.sf_slots.proofs.Sound.{left_true}
use Rattle.law_buffers.proofs.SlotFits.{AreFit, freed_fits}

-- what is told of a slot is what its events say
pub told_inside : (width height : ℕ) (calls : List Entry) (s : ℕ) → s < 64 → slot_at (told_by width height calls) s ≡ slot_after (events calls) s
told_inside width height calls s low = get_or-map-range_with_len (slot_after (events calls)) 0 64 s s unused low (omega arith)

-- events that bring no buffer and no frame
abbrev pub IsPlain : Event → Type 0
IsPlain (Make t width height maker) = ⊥
IsPlain (Hand item) = ⊥
IsPlain _ = Unit {0}

abbrev pub ArePlain : List Event → Type 0
ArePlain [] = Unit {0}
ArePlain (event ∷ later) = IsPlain event × ArePlain later

one_plain : (event : Event) (es : List Event) → IsPlain event → AreFit es → AreFit (event ∷ es)
one_plain (Make t width height maker) es p fit = absurd p
one_plain (Hand item) es p fit = absurd p
one_plain (Lend t) es p fit = (tt, fit)
one_plain (Take t) es p fit = (tt, fit)
one_plain (Back t fence) es p fit = (tt, fit)
one_plain (Gone t) es p fit = (tt, fit)
one_plain (Mark t) es p fit = (tt, fit)
one_plain Unmark es p fit = (tt, fit)

plain_fit : (more es : List Event) → ArePlain more → AreFit es → AreFit (happening more es)
plain_fit [] es p fit = fit
plain_fit (event ∷ more) es p fit = plain_fit more (event ∷ es) p.1 (one_plain event es p.0 fit)

gone_plain : (slots : List ℕ) → ArePlain (map Gone slots)
gone_plain [] = tt
gone_plain (s ∷ slots) = (tt, gone_plain slots)

kept_plain : (items : List PlainItem) (s : ℕ) → ArePlain (map kept_back items ++ Take s ∷ [])
kept_plain [] s = (tt, tt)
kept_plain (item ∷ items) s = (tt, kept_plain items s)

joined : (one two : List Event) → ArePlain one → ArePlain two → ArePlain (one ++ two)
joined [] two p q = q
joined (event ∷ one) two p q = (p.0, joined one two p.1 q)

back_plain : (slot : Option ℕ) → ArePlain (back_if slot)
back_plain None = tt
back_plain (Some s) = (tt, tt)

-- what a reply says that gives a buffer or a frame
abbrev pub Gives : List Event → PlainCall → PlainReply → Type 0
Gives before (call.Dequeue width height wait) (reply.Dequeued slot held requested true fence) = state_after before slot.0 ≡ Free
Gives before (call.Queue lease picture width height time crop fence) (reply.Queued frame) = buffer_after before lease.slot.0 ≡ Some lease.held
Gives before (call.Attach held) (reply.Attached slot new) = state_after before slot.0 ≡ Free
Gives before (call.AttachRead held) (reply.Attached slot new) = state_after before slot.0 ≡ Free
Gives before _ _ = Unit {0}

free_waits_not : (before : List Event) (s : ℕ) → state_after before s ≡ Free → state_after before s ≡ Queued → ⊥
free_waits_not before s e f = cc (e, f)

queued_fits : (before : List Event) (item : PlainItem) → buffer_after before item.slot.0 ≡ Some item.held → AreFit before → AreFit (happening (back_if (replaced_slot (items_after before))) (Hand item ∷ before))
queued_fits before item there fit = let handed : AreFit (Hand item ∷ before) = (there, fit) in plain_fit (back_if (replaced_slot (items_after before))) (Hand item ∷ before) (back_plain (replaced_slot (items_after before))) handed

gone_fit : (slots : List ℕ) (before : List Event) → AreFit before → AreFit (happening (map Gone slots) before)
gone_fit slots before fit = plain_fit (map Gone slots) before (gone_plain slots) fit

leaving_fit : (before : List Event) (earlier : List Entry) (count : ℕ) → AreFit before → AreFit (happening (leaving before earlier count) before)
leaving_fit before earlier count fit = gone_fit (filter (λ s. same_state (state_after before s) Free) (no_longer_usable earlier count)) before fit

-- so the events of a call fit
call_fits : (before : List Event) (earlier : List Entry) (asked : PlainCall) (told : PlainReply) → Gives before asked told → AreFit before → AreFit (happening (events_of before earlier asked told) before)
call_fits before earlier call.Disconnect reply.Done gives fit =
    let gone = filter (λ s. is_back_or_lent (state_after before s)) all_slots in
    let last : ArePlain (Unmark ∷ []) = (tt, tt) in
    plain_fit (map Gone gone ++ Unmark ∷ []) before (joined (map Gone gone) (Unmark ∷ []) (gone_plain gone) last) fit
call_fits before earlier (call.MaxDequeued n) reply.Done gives fit = leaving_fit before earlier (usable_with (max_acquired earlier) n (asynchronous earlier)) fit
call_fits before earlier (call.Async on) reply.Done gives fit = leaving_fit before earlier (usable_with (max_acquired earlier) (max_dequeued earlier) on) fit
call_fits before earlier (call.MaxAcquired n) reply.Done gives fit = leaving_fit before earlier (usable_with n (max_dequeued earlier) (asynchronous earlier)) fit
call_fits before earlier (call.Dequeue width height wait) (reply.Dequeued slot held requested true fence) gives fit = (tt, (free_waits_not before slot.0 gives, fit))
call_fits before earlier (call.Dequeue width height wait) (reply.Dequeued slot held requested false fence) gives fit = (tt, fit)
call_fits before earlier (call.Request lease) (reply.Requested held) gives fit = (tt, fit)
call_fits before earlier (call.Queue lease picture width height time crop fence) (reply.Queued frame) gives fit = queued_fits before (record { slot = lease.slot; held = lease.held; frame = frame; picture = picture; time = time; droppable = asynchronous earlier; fence = fence; crop = crop }) gives fit
call_fits before earlier (call.Cancel lease fence) reply.Done gives fit = (tt, fit)
call_fits before earlier (call.Detach lease) reply.Done gives fit = (tt, fit)
call_fits before earlier (call.Attach held) (reply.Attached slot new) gives fit = (tt, (free_waits_not before slot.0 gives, fit))
call_fits before earlier call.Abandon reply.Done gives fit = gone_fit all_slots before fit
call_fits before earlier (call.Acquire expected) (reply.Acquired item dropped) gives fit =
    plain_fit (map kept_back (take dropped (items_after before)) ++ Take item.slot.0 ∷ []) before (kept_plain (take dropped (items_after before)) item.slot.0) fit
call_fits before earlier (call.Release lease fence) reply.Done gives fit = (tt, fit)
call_fits before earlier (call.DetachRead lease) reply.Done gives fit = (tt, fit)
call_fits before earlier (call.AttachRead held) (reply.Attached slot new) gives fit = (tt, (free_waits_not before slot.0 gives, fit))
call_fits before earlier _ _ gives fit = fit

slots_long : (f : ℕ → Slot) → length (map f all_slots) ≡ 64
slots_long f = refl

-- the slot that a dequeue or an attach takes is free
bare_free : (width height : ℕ) (calls : List Entry) (s : ℕ) → lowest_bare (told_by width height calls) ≡ Some s → state_after (events calls) s ≡ Free
bare_free width height calls s e =
    let told = told_by width height calls in
    let at = position-Some is_bare (take (usable told.settings) told.slots) s unused e in
    let shorter = length-take (usable told.settings) told.slots in
    let long : length told.slots ≡ 64 = slots_long (slot_after (events calls)) in
    let below : s < usable told.settings = omega (arith, at.0, shorter) in
    let inside : s < 64 = omega (arith, at.0, shorter, long) in
    let same = get_or-take (usable told.settings) told.slots s unused below in
    let bare : is_bare (get_or told.slots s unused) ≡ true = rw same at at.1 in
    let free = free_state (get_or told.slots s unused).state (left_true (is_in Free (get_or told.slots s unused)) (not (is_some (get_or told.slots s unused).held)) bare) in
    sym (ap (λ (slot : Slot). slot.state) (told_inside width height calls s inside)) ∙ free

either : (one two : Option ℕ) (s : ℕ) → option_or one two ≡ Some s → (one ≡ Some s) ⊎ (two ≡ Some s)
either None two s e = inr e
either (Some t) two s e = inl e

slot_free : (width height : ℕ) (calls : List Entry) (which : Bool) (s : ℕ) → AreFit (events calls) → slot_for which (told_by width height calls) ≡ Some s → state_after (events calls) s ≡ Free
slot_free width height calls true s fit e =
    elim (either (first_freed (told_by width height calls)) (lowest_bare (told_by width height calls)) s e) [
      | inl f ↦ freed_fits (events calls) fit s f
      | inr b ↦ bare_free width height calls s b
    ]
slot_free width height calls false s fit e =
    elim (either (lowest_bare (told_by width height calls)) (first_freed (told_by width height calls)) s e) [
      | inl b ↦ bare_free width height calls s b
      | inr f ↦ freed_fits (events calls) fit s f
    ]

there_is : (slot : Option ℕ) → is_none slot ≡ false → slot ≡ Some (unwrap_or slot 0)
there_is None e = absurd (cc (e))
there_is (Some s) e = refl

found_free : (width height : ℕ) (calls : List Entry) (which : Bool) → AreFit (events calls) → is_none (slot_for which (told_by width height calls)) ≡ false
    → state_after (events calls) (unwrap_or (slot_for which (told_by width height calls)) 0) ≡ Free
found_free width height calls which fit e = slot_free width height calls which (unwrap_or (slot_for which (told_by width height calls)) 0) fit (there_is (slot_for which (told_by width height calls)) e)

-- a lent slot has the lease's buffer
abbrev pub held_of : ℕ → ℕ → ℕ → Held
held_of number width height = record { number = number; width = width; height = height }

same_held : (a b : Held) → same_buffer a b ≡ true → a ≡ b
same_held a b e =
    let number : a.number ≡ b.number = grind (arith, nat_tests, e) in
    let width : a.width ≡ b.width = grind (arith, nat_tests, e) in
    let height : a.height ≡ b.height = grind (arith, nat_tests, e) in
    let first : a ≡ held_of b.number a.width a.height = ap (λ (n : ℕ). held_of n a.width a.height) number in
    let second : held_of b.number a.width a.height ≡ held_of b.number b.width a.height = ap (λ (w : ℕ). held_of b.number w a.height) width in
    let third : held_of b.number b.width a.height ≡ b = ap (λ (h : ℕ). held_of b.number b.width h) height in
    first ∙ second ∙ third

buffer_is : (held : Option Held) (buffer : Held) → is_buffer held buffer ≡ true → held ≡ Some buffer
buffer_is None buffer e = absurd (cc (e))
buffer_is (Some held) buffer e = ap Some (same_held held buffer e)

right_true : (a b : Bool) → (a && b) ≡ true → b ≡ true
right_true true b met = met
right_true false b met = absurd (cc (met))

-- a slot that has a buffer is one of the queue's
pub has_inside : (width height : ℕ) (calls : List Entry) (s : ℕ) (held : Held) → (slot_at (told_by width height calls) s).held ≡ Some held → s < 64
has_inside width height calls s held here = elim (cases_lt s 64) [
  | inl low ↦ low
  | inr high ↦
      let long = slots_long (slot_after (events calls)) in
      let past : slot_at (told_by width height calls) s ≡ unused = get_or_past (told_by width height calls).slots s unused (omega (arith, long, high)) in
      absurd (cc (sym (ap (λ (slot : Slot). slot.held) past) ∙ here))
]

lent_buffer : (width height : ℕ) (calls : List Entry) (slot : SlotId) (held : Held) → is_lent (told_by width height calls) slot held ≡ true → buffer_after (events calls) slot.0 ≡ Some held
lent_buffer width height calls slot held e =
    let told = told_by width height calls in
    let here : (slot_at told slot.0).held ≡ Some held = buffer_is (slot_at told slot.0).held held (right_true (is_in Dequeued (slot_at told slot.0)) (is_buffer (slot_at told slot.0).held held) e) in
    sym (ap (λ (slot : Slot). slot.held) (told_inside width height calls slot.0 (has_inside width height calls slot.0 held here))) ∙ here

-- a refusal gives nothing
refused : (before : List Event) (asked : PlainCall) (cause : QStatus) → Gives before asked (reply.Refused cause)
refused before call.Connect cause = tt
refused before call.Disconnect cause = tt
refused before (call.MaxDequeued n) cause = tt
refused before (call.Async on) cause = tt
refused before (call.Dequeue w h wait) cause = tt
refused before (call.Request lease) cause = tt
refused before (call.Queue lease picture w h time crop fence) cause = tt
refused before (call.Cancel lease fence) cause = tt
refused before (call.Detach lease) cause = tt
refused before (call.Attach held) cause = tt
refused before (call.MaxAcquired n) cause = tt
refused before call.Abandon cause = tt
refused before (call.Acquire expected) cause = tt
refused before (call.Release lease fence) cause = tt
refused before (call.DetachRead lease) cause = tt
refused before (call.AttachRead held) cause = tt

gives_if : (before : List Event) (asked : PlainCall) (refusal : Option QStatus) (given : PlainReply) → (refusal ≡ None → Gives before asked given) → Gives before asked (refused_or refusal given)
gives_if before asked None given gives = gives refl
gives_if before asked (Some cause) given gives = refused before asked cause

gives_dequeued : (width height : ℕ) (calls : List Entry) (w h : ℕ) (wait : Bool) (s : ℕ) (size : ℕ × ℕ) (b : Bool) → has_size (slot_at (told_by width height calls) s).held size ≡ b
    → state_after (events calls) s ≡ Free → Gives (events calls) (call.Dequeue w h wait) (dequeued_from (told_by width height calls) s size)
gives_dequeued width height calls w h wait s size true e free = rw e tt
gives_dequeued width height calls w h wait s size false e free = rw e free

not_not : (b : Bool) → not b ≡ false → b ≡ true
not_not true e = refl
not_not false e = absurd (cc (e))

-- what a call gives after legal calls
given : (width height : ℕ) (calls : List Entry) (caller : ActorId) (asked : PlainCall) → AreFit (events calls) → refusal_of (told_by width height calls) caller asked ≡ None
    → Gives (events calls) asked (given_by (told_by width height calls) asked)
given width height calls caller (call.Dequeue w h wait) fit none =
    let told = told_by width height calls in
    let own = own_unmet told caller (call.Dequeue w h wait) none in
    let one = unmet (is_wrong_size w h) status.BadValue ((is_producer_full told, status.InvalidOperation) ∷ (is_none (slot_for true told), status.WouldBlock) ∷ []) own in
    let two = unmet (is_producer_full told) status.InvalidOperation ((is_none (slot_for true told), status.WouldBlock) ∷ []) one.1 in
    let three = unmet (is_none (slot_for true told)) status.WouldBlock [] two.1 in
    gives_dequeued width height calls w h wait (unwrap_or (slot_for true told) 0) (size_asked told.settings w h) (has_size (slot_at told (unwrap_or (slot_for true told) 0)).held (size_asked told.settings w h)) refl
    (found_free width height calls true fit three.0)
given width height calls caller (call.Queue lease picture w h time crop fence) fit none =
    let told = told_by width height calls in
    let own = own_unmet told caller (call.Queue lease picture w h time crop fence) none in
    let one = unmet (not (is_lent told lease.slot lease.held)) status.BadValue
    ((not (slot_at told lease.slot.0).requested, status.BadValue) ∷ (not ((w == lease.held.width) && (h == lease.held.height)), status.BadValue) ∷ (not (is_crop_of lease.held crop), status.BadValue) ∷ []) own in
    lent_buffer width height calls lease.slot lease.held (not_not (is_lent told lease.slot lease.held) one.0)
given width height calls caller (call.Attach held) fit none =
    let told = told_by width height calls in
    let own = own_unmet told caller (call.Attach held) none in
    let one = unmet (is_producer_full told) status.InvalidOperation ((is_none (slot_for false told), status.WouldBlock) ∷ []) own in
    let two = unmet (is_none (slot_for false told)) status.WouldBlock [] one.1 in
    found_free width height calls false fit two.0
given width height calls caller (call.AttachRead held) fit none =
    let told = told_by width height calls in
    let own = own_unmet told caller (call.AttachRead held) none in
    let one = unmet (is_consumer_full told) status.InvalidOperation ((is_none (slot_for false told), status.NoSlot) ∷ []) own in
    let two = unmet (is_none (slot_for false told)) status.NoSlot [] one.1 in
    found_free width height calls false fit two.0
given width height calls caller (call.Acquire expected) fit none = acquired (dropped_count expected (told_by width height calls).items) (front_after_drops expected (told_by width height calls))
  where
    acquired : (dropped : ℕ) (item : Option PlainItem) → Gives (events calls) (call.Acquire expected) (acquired_item dropped item)
    acquired dropped None = tt
    acquired dropped (Some item) = tt
given width height calls caller call.Connect fit none = tt
given width height calls caller call.Disconnect fit none = tt
given width height calls caller (call.MaxDequeued n) fit none = tt
given width height calls caller (call.Async on) fit none = tt
given width height calls caller (call.Request lease) fit none = tt
given width height calls caller (call.Cancel lease fence) fit none = tt
given width height calls caller (call.Detach lease) fit none = tt
given width height calls caller (call.MaxAcquired n) fit none = tt
given width height calls caller call.Abandon fit none = tt
given width height calls caller (call.Release lease fence) fit none = tt
given width height calls caller (call.DetachRead lease) fit none = tt

pub calls_fit : (width height : ℕ) (calls : List Entry) → AreReplies width height calls → AreFit (events calls)
calls_fit width height [] legal = tt
calls_fit width height (entry ∷ earlier) legal =
    let before = calls_fit width height earlier legal.1 in
    let gives = gives_if (events earlier) entry.call (refusal_of (told_by width height earlier) entry.caller entry.call) (given_by (told_by width height earlier) entry.call)
    (given width height earlier entry.caller entry.call before) in
    call_fits (events earlier) earlier entry.call entry.reply (subst (Gives (events earlier) entry.call) (sym legal.0) gives) before
