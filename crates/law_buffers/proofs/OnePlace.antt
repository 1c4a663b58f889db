-- Each buffer of a queue is in one place, after legal calls.
use Rattle.std.proofs.Common.{◌≡◌, ℕ, List, [], ◌∷◌, Option, Some, None, refl, sym, ap, ◌∙◌, inl, inr, arith, Contains, zero, suc}
use Rattle.sf_slots.specs.declared.calls.Entry.{Entry}
use Rattle.sf_slots.specs.declared.item.PlainItem.{PlainItem}
use Rattle.sf_slots.specs.declared.slot.Held.{Held}
use Rattle.sf_slots.specs.declared.slot.Slot.{Slot}
use Rattle.sf_slots.specs.declared.slot.SlotState.{SlotState}
use Rattle.sf_slots.specs.declared.slot.SlotState.TheVariants.{Free, Dequeued, Queued, Acquired}
use Rattle.sf_slots.specs.Events.{buffer_after, items_after, state_after}
use Rattle.sf_slots.specs.History.{events, told_by}
use Rattle.sf_slots.specs.Tells.{AreReplies}
use Rattle.sf_slots.specs.Told.{slot_at}
use Rattle.law_buffers.specs.Places.{HasBuffer, IsSomewhere, IsThere, Kept, Lent, Place, Taken, Waits, WaitsWith}
use Rattle.law_buffers.proofs.SlotFits.{Among, item_fits}
use Rattle.law_buffers.proofs.Legal.{calls_fit, has_inside, told_inside}
use Rattle.law_buffers.proofs.Numbers.{items_apart, numbers_apart, queued_waits}

among : (items : List PlainItem) (item : PlainItem) → Contains items item → Among item items
among [] item c = absurd (omega (arith, c.1))
among (x ∷ items) item (zero, low, e) = inl e
among (x ∷ items) item (suc k, low, e) = inr (among items item (k, omega (arith, low), e))

contains : (items : List PlainItem) (item : PlainItem) → Among item items → Contains items item
contains [] item a = absurd a
contains (x ∷ items) item (inl e) = (zero, omega arith, e)
contains (x ∷ items) item (inr a) = let c = contains items item a in let low = c.1 in (suc c.0, omega (arith, low), c.2)

-- a slot in a state, with a buffer of a number
record At (calls : List Entry) (slot number : ℕ) (state : SlotState) : Type 0 where
  stated : state_after (events calls) slot ≡ state
  held : Held
  here : buffer_after (events calls) slot ≡ Some held
  numbered : held.number ≡ number

at_slot : (width height : ℕ) (calls : List Entry) (slot number : ℕ) (state : SlotState) → HasBuffer (told_by width height calls) slot number state → At calls slot number state
at_slot width height calls slot number state h =
    let same = told_inside width height calls slot (has_inside width height calls slot h.held h.here) in
    record { stated = sym (ap (λ (s : Slot). s.state) same) ∙ h.stated; held = h.held; here = sym (ap (λ (s : Slot). s.held) same) ∙ h.here; numbered = h.numbered }

at_item : (width height : ℕ) (calls : List Entry) (item : PlainItem) (number : ℕ) → AreReplies width height calls → WaitsWith (told_by width height calls) item number → At calls item.slot.0 number Queued
at_item width height calls item number legal w =
    let f = item_fits (events calls) (calls_fit width height calls legal) item (among (items_after (events calls)) item w.waits) in
    record { stated = f.0; held = item.held; here = f.1; numbered = w.numbered }

same_slot : (calls : List Entry) (one other number : ℕ) (state also : SlotState) → At calls one number state → At calls other number also → one ≡ other
same_slot calls one other number state also a b = numbers_apart (events calls) one other a.held b.held a.here b.here (a.numbered ∙ sym b.numbered)

same_state : (calls : List Entry) (one other number : ℕ) (state also : SlotState) → At calls one number state → At calls other number also → state ≡ also
same_state calls one other number state also a b = sym a.stated ∙ ap (state_after (events calls)) (same_slot calls one other number state also a b) ∙ b.stated

pub one_place : (width height : ℕ) (calls : List Entry) → AreReplies width height calls
    → (number : ℕ) (place other : Place) → IsThere (told_by width height calls) number place → IsThere (told_by width height calls) number other → place ≡ other
one_place width height calls legal number (Kept s) (Kept t) a b = ap Kept (same_slot calls s t number Free Free (at_slot width height calls s number Free a) (at_slot width height calls t number Free b))
one_place width height calls legal number (Lent s) (Lent t) a b = ap Lent (same_slot calls s t number Dequeued Dequeued (at_slot width height calls s number Dequeued a) (at_slot width height calls t number Dequeued b))
one_place width height calls legal number (Taken s) (Taken t) a b = ap Taken (same_slot calls s t number Acquired Acquired (at_slot width height calls s number Acquired a) (at_slot width height calls t number Acquired b))
one_place width height calls legal number (Waits i) (Waits j) a b =
    ap Waits (items_apart (events calls) i j (among (items_after (events calls)) i a.waits) (among (items_after (events calls)) j b.waits)
    (same_slot calls i.slot.0 j.slot.0 number Queued Queued (at_item width height calls i number legal a) (at_item width height calls j number legal b)))
one_place width height calls legal number (Kept s) (Lent t) a b = absurd (cc (same_state calls s t number Free Dequeued (at_slot width height calls s number Free a) (at_slot width height calls t number Dequeued b)))
one_place width height calls legal number (Kept s) (Taken t) a b = absurd (cc (same_state calls s t number Free Acquired (at_slot width height calls s number Free a) (at_slot width height calls t number Acquired b)))
one_place width height calls legal number (Kept s) (Waits j) a b = absurd (cc (same_state calls s j.slot.0 number Free Queued (at_slot width height calls s number Free a) (at_item width height calls j number legal b)))
one_place width height calls legal number (Lent s) (Kept t) a b = absurd (cc (same_state calls s t number Dequeued Free (at_slot width height calls s number Dequeued a) (at_slot width height calls t number Free b)))
one_place width height calls legal number (Lent s) (Taken t) a b = absurd (cc (same_state calls s t number Dequeued Acquired (at_slot width height calls s number Dequeued a) (at_slot width height calls t number Acquired b)))
one_place width height calls legal number (Lent s) (Waits j) a b = absurd (cc (same_state calls s j.slot.0 number Dequeued Queued (at_slot width height calls s number Dequeued a) (at_item width height calls j number legal b)))
one_place width height calls legal number (Taken s) (Kept t) a b = absurd (cc (same_state calls s t number Acquired Free (at_slot width height calls s number Acquired a) (at_slot width height calls t number Free b)))
one_place width height calls legal number (Taken s) (Lent t) a b = absurd (cc (same_state calls s t number Acquired Dequeued (at_slot width height calls s number Acquired a) (at_slot width height calls t number Dequeued b)))
one_place width height calls legal number (Taken s) (Waits j) a b = absurd (cc (same_state calls s j.slot.0 number Acquired Queued (at_slot width height calls s number Acquired a) (at_item width height calls j number legal b)))
one_place width height calls legal number (Waits i) (Kept t) a b = absurd (cc (same_state calls i.slot.0 t number Queued Free (at_item width height calls i number legal a) (at_slot width height calls t number Free b)))
one_place width height calls legal number (Waits i) (Lent t) a b = absurd (cc (same_state calls i.slot.0 t number Queued Dequeued (at_item width height calls i number legal a) (at_slot width height calls t number Dequeued b)))
one_place width height calls legal number (Waits i) (Taken t) a b = absurd (cc (same_state calls i.slot.0 t number Queued Acquired (at_item width height calls i number legal a) (at_slot width height calls t number Acquired b)))

-- a buffer that a slot has, by the slot's state
by_state : (width height : ℕ) (calls : List Entry) (slot : ℕ) (held : Held) (state : SlotState) → AreReplies width height calls
    → (slot_at (told_by width height calls) slot).state ≡ state → (slot_at (told_by width height calls) slot).held ≡ Some held → IsSomewhere (told_by width height calls) held.number
by_state width height calls slot held Free legal e here = (Kept slot, record { stated = e; held = held; here = here; numbered = refl })
by_state width height calls slot held Dequeued legal e here = (Lent slot, record { stated = e; held = held; here = here; numbered = refl })
by_state width height calls slot held Acquired legal e here = (Taken slot, record { stated = e; held = held; here = here; numbered = refl })
by_state width height calls slot held Queued legal e here =
    let same = told_inside width height calls slot (has_inside width height calls slot held here) in
    let w = queued_waits (events calls) slot (sym (ap (λ (s : Slot). s.state) same) ∙ e) in
    let f = item_fits (events calls) (calls_fit width height calls legal) w.item w.among in
    let its : Some w.item.held ≡ Some held = sym f.1 ∙ ap (buffer_after (events calls)) w.slot ∙ sym (ap (λ (s : Slot). s.held) same) ∙ here in
    (Waits w.item, record { waits = contains (items_after (events calls)) w.item w.among; numbered = ap number_in its })
  where
    number_in : Option Held → ℕ
    number_in None = 0
    number_in (Some x) = x.number

pub some_place : (width height : ℕ) (calls : List Entry) (slot : ℕ) (held : Held) → AreReplies width height calls
    → (slot_at (told_by width height calls) slot).held ≡ Some held → IsSomewhere (told_by width height calls) held.number
some_place width height calls slot held legal here = by_state width height calls slot held (slot_at (told_by width height calls) slot).state legal refl here
