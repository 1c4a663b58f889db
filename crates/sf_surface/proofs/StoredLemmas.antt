-- What the calls say of the rights in a queue, with one call more.
use Rattle.std.proofs.Common.{◌≡◌, ℕ, ◌<◌, ◌≤◌, Bool, true, false, ◌==◌, ◌&&◌, nat_le, suc, zero, List, ◌∷◌, inl, inr, is_some, length, get_or, arith, ap, ◌∙◌, sym, refl, subst, Option, Some, None}
use Rattle.std.specs.Prelude.{if◌then◌else◌, Contains}
use Rattle.std.proofs.lemmas.Bool.{cases_Bool}
use Rattle.std.proofs.lemmas.Bool.Decides.{nat_tests}
use Rattle.std.proofs.Math.ListN.{get_or-eq_default}
use Rattle.sf_base.specs.Fences.{Fence}
use Rattle.sf_base.specs.declared.ids.QueueId.{QueueId}
use Rattle.sf_base.specs.declared.ids.SlotId.{SlotId}
use Rattle.sf_slots.specs.declared.item.Item.{Item}
use Rattle.sf_slots.specs.declared.slot.Held.{Held}
use Rattle.sf_slots.specs.declared.slot.Slot.{Slot}
use Rattle.sf_slots.specs.declared.slot.SlotState.{SlotState}
use Rattle.sf_slots.specs.declared.slot.SlotState.TheVariants.{Free, Dequeued, Queued, Acquired}
use Rattle.sf_slots.specs.Told.{same_state, unused}
use Rattle.sf_slots.specs.Queue.{IsOut, IsSound, Queue, is_stored, returned, right_in, slot_in}
use Rattle.sf_surface.specs.declared.call.QCall.{QCall}
use Rattle.sf_surface.specs.declared.call.QCall.TheVariants as call
use Rattle.sf_surface.specs.Calls.{named_slot, no_slot}
use Rattle.sf_surface.specs.Hands.{brought}
use Rattle.sf_surface.specs.Histories.{Left, Made, Stored, last_left, left_after, left_by}
use Rattle.sf_surface.specs.Objects.{AreStored, IsFrameOf}
use Rattle.sf_surface.specs.Tokens.{Right}
use Rattle.sf_surface.proofs.FitLemmas.{AreQueued, IsFit-returned, sound_queued}

-- the newest element of a list, and those before it
pub newest : {A : Type 0} (x : A) (xs : List A) → Contains (x ∷ xs) x
newest x xs = (zero, omega arith, refl)

earlier : {A : Type 0} (x y : A) (xs : List A) → Contains xs y → Contains (x ∷ xs) y
earlier x y xs there = let low = there.1 in (suc there.0, omega (arith, low), there.2)

-- a slot that is out has no right in it
not_stored : (state : SlotState) (some : Bool) → (state ≡ Free → ⊥) → (same_state state Free && some) ≡ false
not_stored Free some apart = absurd (apart refl)
not_stored Dequeued some apart = refl
not_stored Queued some apart = refl
not_stored Acquired some apart = refl

-- a slot that has a buffer is one of the 64, so its name is the lease's own
pub below_64 : (q : Queue Right) (s : ℕ) (buffer : Held) → IsSound q → (slot_in q s).held ≡ Some buffer → s < 64
below_64 q s buffer sound there = elim (cases_Bool (nat_le 64 s)) [
  | inl met ↦
      let far : 64 ≤ s = grind (arith, nat_tests, met) in
      let beyond : length q.slots ≤ s = omega (arith, sound.sized, far) in
      let none : (slot_in q s).held ≡ None = ap (λ (slot : Slot). slot.held) (get_or-eq_default q.slots unused beyond) in
      absurd (cc (none, there))
  | inr below ↦ grind (arith, nat_tests, below)
]

name_met : (b : Bool) (slot : SlotId) → (if b then slot else no_slot).0 < 64 → (if b then slot else no_slot) ≡ slot
name_met true slot low = refl
name_met false slot low = absurd (omega (arith, low))

pub named_itself : (q : Queue Right) (of : QueueId) (slot said : SlotId) (buffer : Held) → IsSound q → said ≡ named_slot q.number of slot → (slot_in q said.0).held ≡ Some buffer → said ≡ slot
named_itself q of slot said buffer sound same there =
    let low : (named_slot q.number of slot).0 < 64 = omega (arith, below_64 q said.0 buffer sound there, ap (λ (s : SlotId). s.0) same) in
    same ∙ name_met (of.0 == q.number.0) slot low

-- what was left last, where something was left in this slot or another
left_here : (left : Left) (before : Option Left) → left_after (Some left) before left.slot ≡ Some left
left_here left before =
    let alike : (left.slot == left.slot) ≡ true = grind (arith, nat_tests) in
    rw alike refl

left_elsewhere : (left : Left) (before : Option Left) (s : ℕ) → (left.slot ≡ s → ⊥) → left_after (Some left) before s ≡ before
left_elsewhere left before s apart = elim (cases_Bool (left.slot == s)) [
  | inl met ↦ absurd (apart (grind (arith, nat_tests, met)))
  | inr unmet ↦ rw unmet refl
]

module _ {B : Type 0} where
  -- a refused call leaves nothing
  pub brought_leaves : (asked : QCall B) → left_by asked (brought asked) ≡ None
  brought_leaves call.Connect = refl
  brought_leaves call.Disconnect = refl
  brought_leaves (call.MaxDequeued n) = refl
  brought_leaves (call.Async on) = refl
  brought_leaves (call.Dequeue width height wait permit) = refl
  brought_leaves (call.Request lease) = refl
  brought_leaves (call.Queue lease picture time crop fence) = refl
  brought_leaves (call.Cancel lease fence) = refl
  brought_leaves (call.Detach lease) = refl
  brought_leaves (call.Attach loose) = refl
  brought_leaves (call.MaxAcquired n) = refl
  brought_leaves call.Abandon = refl
  brought_leaves (call.Acquire expected) = refl
  brought_leaves (call.Release lease fence) = refl
  brought_leaves (call.DetachRead lease) = refl
  brought_leaves (call.AttachRead loose) = refl

  module _ (q : Queue Right) (log : List (Made B)) (made : Made B) where
    frame_of : (item : Item Right) → last_left (made ∷ log) item.slot.0 ≡ last_left log item.slot.0 → IsFrameOf log item → IsFrameOf (made ∷ log) item
    frame_of item same is = record {
      queued = (is.queued.0, earlier made is.queued.0 log is.queued.1, is.queued.2);
      stored = same ∙ is.stored;
    }

    -- a call that leaves nothing
    pub nothing_left : left_by made.call.1 made.reply.gives ≡ None → AreStored log q → AreStored (made ∷ log) q
    unfolding last_left
    nothing_left none stored =
        let same : (s : ℕ) → last_left (made ∷ log) s ≡ last_left log s = λ s. ap (λ (left : Option Left). left_after left (last_left log s) s) none in
        record {
          slots = λ s below buffer turn here right. same s ∙ stored.slots s below buffer turn here right;
          items = λ k d low. frame_of (get_or q.items k d) (same (get_or q.items k d).slot.0) (stored.items k d low);
          seats = stored.seats;
        }

    -- a call that leaves a right in a slot that was out
    pub more_left : (left : Left) → IsSound q → left_by made.call.1 made.reply.gives ≡ Some left → IsOut (slot_in q left.slot).state → AreStored log q → AreStored (made ∷ log) q
    unfolding last_left AreQueued
    more_left left sound is out stored =
        let same : (s : ℕ) → (left.slot ≡ s → ⊥) → last_left (made ∷ log) s ≡ last_left log s =
        λ s apart. ap (λ (found : Option Left). left_after found (last_left log s) s) is ∙ left_elsewhere left (last_left log s) s apart in
        record {
          slots = λ s below buffer turn here right.
              let none : is_some (right_in q s) ≡ is_stored (slot_in q s) = (sound.each s below).right in
              let apart : left.slot ≡ s → ⊥ = λ e.
              let bare : is_stored (slot_in q s) ≡ false = not_stored (slot_in q s).state (is_some (slot_in q s).held) (λ free. out.not_free (ap (λ (n : ℕ). (slot_in q n).state) e ∙ free)) in
              cc (none, bare, right) in
              same s apart ∙ stored.slots s below buffer turn here right;
          items = λ k d low.
              let item : Item Right = get_or q.items k d in
              frame_of item (same item.slot.0 (λ e. out.not_queued (ap (λ (n : ℕ). (slot_in q n).state) e ∙ sound_queued q sound k d low))) (stored.items k d low);
          seats = stored.seats;
        }

  -- what a call leaves is what is left last
  pub stored_now : (log : List (Made B)) (made : Made B) (left : Left) → left_by made.call.1 made.reply.gives ≡ Some left → Stored (made ∷ log) left.slot left.held left.turn
  unfolding last_left
  stored_now log made left is = ap (λ (found : Option Left). left_after found (last_left log left.slot) left.slot) is ∙ left_here left (last_left log left.slot)

  -- a slot that was out comes back with what the call left
  pub puts_back : (q : Queue Right) (log : List (Made B)) (made : Made B) (left : Left) (s : ℕ) (held : Held) (fence : Fence) → IsSound q → (slot_in q s).held ≡ Some held → s ≡ left.slot → held ≡ left.held → IsOut (slot_in q s).state → left_by made.call.1 made.reply.gives ≡ Some left → AreStored log q → AreStored (made ∷ log) (returned q s left.turn fence)
  puts_back q log made left s held fence sound there at same out is stored =
      let now : Stored (made ∷ log) left.slot left.held left.turn = stored_now log made left is in
      let fits : (buffer : Held) → (slot_in q s).held ≡ Some buffer → Stored (made ∷ log) s buffer left.turn = λ buffer here.
      let both : Some held ≡ Some buffer = sym there ∙ here in
      subst (λ (n : ℕ). Stored (made ∷ log) n buffer left.turn) (sym at) (subst (λ (h : Held). Stored (made ∷ log) left.slot h left.turn) (sym same ∙ cc (both)) now) in
      IsFit-returned (Stored (made ∷ log)) (IsFrameOf (made ∷ log)) q s left.turn fence fits
      (more_left q log made left sound is (subst (λ (n : ℕ). IsOut (slot_in q n).state) at out) stored)
