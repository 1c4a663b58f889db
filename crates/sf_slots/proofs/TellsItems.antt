-- Moves of items leave what their events tell.
use Rattle.std.proofs.Common.{◌≡◌, ℕ, ◌+◌, ◌-◌, true, false, not, ◌==◌, List, [], ◌∷◌, ◌++◌, length, arith, ap, ◌∙◌, sym, refl, map, take, drop, slice_get, Some, None, inl, inr}
use Rattle.std.proofs.lemmas.Bool.{cases_Bool}
use Rattle.std.proofs.lemmas.Bool.Decides.{nat_tests}
use Rattle.std.proofs.lemmas.List.{map-append}
use Rattle.std.proofs.lemmas.List.Elements.{filter-append}
use Rattle.std.specs.Prelude.{if◌then◌else◌}
use Rattle.sf_base.specs.Fences.{no_points}
use Rattle.sf_slots.specs.declared.item.Item.{Item}
use Rattle.sf_slots.specs.declared.item.PlainItem.{PlainItem}
use Rattle.sf_slots.specs.declared.slot.Slot.{Slot}
use Rattle.sf_slots.specs.declared.slot.SlotState.TheVariants.{Free, Dequeued, Queued, Acquired}
use Rattle.sf_slots.specs.Events.{Event, Hand, Take, Back, Returned, Waiting, Elsewhere, freed_after, items_after}
use Rattle.sf_slots.specs.History.{slot_after, all_slots}
use Rattle.sf_slots.specs.Queue.{Queue, IsSound, without, plain_item, slot_in, last_in, kept_back, handed_over, appended}
use Rattle.sf_slots.proofs.Lists.{absent_from}
use Rattle.sf_slots.proofs.Sound.{IsAlone, first_is, last_is}
use Rattle.sf_slots.proofs.Lasts.{other_items, freed-last, items-last, append_none, without_absent, others_absent}
use Rattle.sf_slots.proofs.Tells.{Tells, slot_set, freed_more, items_same}

-- a slot that is not free changes
freed_same : {R : Type 0} {q : Queue R} (es : List Event) → IsSound q → Tells q es → (s : ℕ) → ((slot_in q s).state ≡ Free → ⊥) → q.freed ≡ without s (freed_after es) ++ []
freed_same {R} {q} es sound tells s other =
    sym (without_absent q.freed s (absent_from sound.freed s other)) ∙ ap (without s) tells.freed ∙ sym (append_none (without s (freed_after es)))

others_here : (item : PlainItem) (items : List PlainItem) → other_items item.slot.0 (item ∷ items) ≡ other_items item.slot.0 items
others_here item items = let same : (item.slot.0 == item.slot.0) ≡ true = grind (arith, nat_tests) in rw same refl

-- the items of other slots, where the first item goes, or the last
pub others_first : {R : Type 0} (q : Queue R) (item : Item R) → IsAlone q item (drop 1 q.items) → slice_get q.items 0 ≡ Some item → other_items item.slot.0 (map plain_item q.items) ≡ map plain_item (drop 1 q.items)
others_first {R} q item alone first =
    ap (λ (items : List (Item R)). other_items item.slot.0 (map plain_item items)) (first_is q.items item first)
    ∙ others_here (plain_item item) (map plain_item (drop 1 q.items))
    ∙ others_absent (drop 1 q.items) item.slot.0 alone.once

others_end : {R : Type 0} (front : List (Item R)) (item : Item R) → other_items item.slot.0 (map plain_item (front ++ item ∷ [])) ≡ other_items item.slot.0 (map plain_item front)
others_end {R} front item =
    ap (other_items item.slot.0) (map-append plain_item front (item ∷ []))
    ∙ filter-append (λ (other : PlainItem). not (other.slot.0 == item.slot.0)) (map plain_item front) (plain_item item ∷ [])
    ∙ ap (λ end. other_items item.slot.0 (map plain_item front) ++ end) (others_here (plain_item item) [])
    ∙ append_none (other_items item.slot.0 (map plain_item front))

pub others_last : {R : Type 0} (q : Queue R) (item : Item R) → IsAlone q item (take (length q.items - 1) q.items) → last_in q.items ≡ Some item → other_items item.slot.0 (map plain_item q.items) ≡ map plain_item (take (length q.items - 1) q.items)
others_last {R} q item alone last =
    let front : List (Item R) = take (length q.items - 1) q.items in
    ap (λ (items : List (Item R)). other_items item.slot.0 (map plain_item items)) (last_is q.items item last) ∙ others_end front item ∙ others_absent front item.slot.0 alone.once

-- an item is dropped or replaced
pub Tells-kept_back : {R : Type 0} {q : Queue R} (es : List Event) → IsSound q → Tells q es → (item : Item R) (others : List (Item R)) → IsAlone q item others → other_items item.slot.0 (map plain_item q.items) ≡ map plain_item others → Tells (kept_back (record q { items = others }) item) (Back item.slot.0 None ∷ es)
Tells-kept_back {R} {q} es sound tells item others alone left = record {
  slots = slot_set (slot_after es) (slot_after (Back item.slot.0 None ∷ es)) (λ slot. record slot { state = Free }) item.slot.0 tells.slots (λ u. elim (cases_Bool (item.slot.0 == u)) [ inl met ↦ rw met refl | inr unmet ↦ rw unmet refl ]);
  freed = freed_more es sound tells item.slot.0 (λ e. cc (alone.queued, e)) ∙ sym (freed-last es item.slot.0 (Returned item.slot.0));
  items = sym left ∙ ap (other_items item.slot.0) tells.items ∙ sym (append_none (other_items item.slot.0 (items_after es))) ∙ sym (items-last es item.slot.0 (Returned item.slot.0));
  frames = tells.frames;
  buffers = tells.buffers;
}

-- the first item is taken
pub Tells-handed_over : {R : Type 0} {q : Queue R} (es : List Event) → IsSound q → Tells q es → (item : Item R) → IsAlone q item (drop 1 q.items) → slice_get q.items 0 ≡ Some item → Tells (handed_over q item) (Take item.slot.0 ∷ es)
Tells-handed_over {R} {q} es sound tells item alone first = record {
  slots = slot_set (slot_after es) (slot_after (Take item.slot.0 ∷ es)) (λ slot. record slot { state = Acquired; fence = no_points }) item.slot.0 tells.slots (λ u. elim (cases_Bool (item.slot.0 == u)) [ inl met ↦ rw met refl | inr unmet ↦ rw unmet refl ]);
  freed = freed_same es sound tells item.slot.0 (λ e. cc (alone.queued, e)) ∙ sym (freed-last es item.slot.0 (Elsewhere item.slot.0));
  items = sym (others_first q item alone first) ∙ ap (other_items item.slot.0) tells.items ∙ sym (append_none (other_items item.slot.0 (items_after es))) ∙ sym (items-last es item.slot.0 (Elsewhere item.slot.0));
  frames = tells.frames;
  buffers = tells.buffers;
}

-- what is told of the items behind a new one
items_more : {R : Type 0} {q : Queue R} (es : List Event) → IsSound q → Tells q es → (item : Item R) → (slot_in q item.slot.0).state ≡ Dequeued → map plain_item q.items ++ plain_item item ∷ [] ≡ items_after (Hand (plain_item item) ∷ es)
items_more {R} {q} es sound tells item out =
    ap (λ items. items ++ plain_item item ∷ []) (items_same es sound tells item.slot.0 (λ e. cc (out, e)) ∙ append_none (other_items item.slot.0 (items_after es)))
    ∙ sym (items-last es item.slot.0 (Waiting (plain_item item)))

pub Tells-appended : {R : Type 0} {q : Queue R} (es : List Event) → IsSound q → Tells q es → (item : Item R) → (slot_in q item.slot.0).state ≡ Dequeued → Tells (appended q item) (Hand (plain_item item) ∷ es)
Tells-appended {R} {q} es sound tells item out = record {
  slots = slot_set (slot_after es) (slot_after (Hand (plain_item item) ∷ es)) (λ slot. record slot { state = Queued; frame = item.frame; fence = item.fence }) item.slot.0 tells.slots (λ u. elim (cases_Bool (item.slot.0 == u)) [ inl met ↦ rw met refl | inr unmet ↦ rw unmet refl ]);
  freed = freed_same es sound tells item.slot.0 (λ e. cc (out, e)) ∙ sym (freed-last es item.slot.0 (Waiting (plain_item item)));
  items = map-append plain_item q.items (item ∷ []) ∙ items_more es sound tells item out;
  frames = ap (λ n. n + 1) tells.frames;
  buffers = tells.buffers;
}

-- the same where the last item gives way: its slot comes back after the new item was queued
pub Tells-replaced : {R : Type 0} {q : Queue R} (es : List Event) → IsSound q → Tells q es → (item last : Item R) (front : List (Item R)) → (slot_in q item.slot.0).state ≡ Dequeued → IsAlone q last front → other_items last.slot.0 (map plain_item q.items) ≡ map plain_item front → Tells (appended (kept_back (record q { items = front }) last) item) (Back last.slot.0 None ∷ Hand (plain_item item) ∷ es)
Tells-replaced {R} {q} es sound tells item last front out alone left =
    let s : ℕ = item.slot.0 in
    let t : ℕ = last.slot.0 in
    let handed : List Event = Hand (plain_item item) ∷ es in
    let differ : s ≡ t → ⊥ = (λ e. cc (out, alone.queued, e)) in
    let freeing : Slot → Slot = λ slot. record slot { state = Free } in
    let freed_at : ℕ → Slot = λ u. if t == u then freeing (slot_after es u) else slot_after es u in
    let freed_slots : (kept_back (record q { items = front }) last).slots ≡ map freed_at all_slots = slot_set (slot_after es) freed_at freeing t tells.slots (λ u. refl) in
    let kept : other_items t (plain_item item ∷ []) ≡ plain_item item ∷ [] = (let apart : (s == t) ≡ false = grind (arith, nat_tests, differ) in rw apart refl) in
    record {
      slots = slot_set freed_at (slot_after (Back t None ∷ handed)) (λ slot. record slot { state = Queued; frame = item.frame; fence = item.fence }) s freed_slots (λ u. elim (cases_Bool (s == u)) [
        | inl met ↦ let other : (t == u) ≡ false = grind (arith, nat_tests, differ, met) in rw (met, other) refl
        | inr unmet ↦ elim (cases_Bool (t == u)) [ inl here ↦ rw (unmet, here) refl | inr there ↦ rw (unmet, there) refl ]
      ]);
      freed = ap (λ xs. xs ++ t ∷ []) (sym (without_absent q.freed t (absent_from sound.freed t (λ e. cc (alone.queued, e)))) ∙ ap (without t) (freed_same es sound tells s (λ e. cc (out, e)) ∙ sym (freed-last es s (Waiting (plain_item item))))) ∙ sym (freed-last handed t (Returned t));
      items = map-append plain_item front (item ∷ [])
          ∙ ap (λ items. items ++ plain_item item ∷ []) (sym left)
          ∙ ap (λ end. other_items t (map plain_item q.items) ++ end) (sym kept)
          ∙ sym (filter-append (λ (other : PlainItem). not (other.slot.0 == t)) (map plain_item q.items) (plain_item item ∷ []))
          ∙ ap (other_items t) (items_more es sound tells item out)
          ∙ sym (append_none (other_items t (items_after handed)))
          ∙ sym (items-last handed t (Returned t));
      frames = ap (λ n. n + 1) tells.frames;
      buffers = tells.buffers;
    }
