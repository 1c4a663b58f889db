-- In which slots a right lies after a call, by what the history says of the call.
use Rattle.std.proofs.Common.{◌≡◌, ℕ, ◌⊎◌, true, false, List, [], ◌∷◌, ◌++◌, length, sym, refl, map, filter, inl, inr, subst, Option, Some, None, take}
use Rattle.std.specs.Prelude.{Contains, ◌-◌, slice_get}
use Rattle.std.specs.List.{All}
use Rattle.std.proofs.lemmas.Bool.{cases_Bool}
use Rattle.std.proofs.lemmas.List.Elements.{All-contains, All-take}
use Rattle.std.proofs.lemmas.Option.{get_or_from_slice_get, slice_get_within}
use Rattle.sf_slots.specs.declared.calls.Entry.{Entry}
use Rattle.sf_slots.specs.declared.calls.PlainCall.{PlainCall}
use Rattle.sf_slots.specs.declared.calls.PlainCall.TheVariants as call
use Rattle.sf_slots.specs.declared.calls.PlainReply.{PlainReply}
use Rattle.sf_slots.specs.declared.calls.PlainReply.TheVariants as reply
use Rattle.sf_slots.specs.declared.item.PlainItem.{PlainItem}
use Rattle.sf_slots.specs.declared.slot.SlotState.TheVariants.{Free}
use Rattle.sf_slots.specs.Events.{Event, Hand, Take, Gone, Unmark, Dequeuing, Producer, Consumer, items_after, state_after}
use Rattle.sf_slots.specs.History.{all_slots, asynchronous, back_if, events, events_of, happening, is_back_or_lent, kept_back, max_acquired, max_dequeued, no_longer_usable, slot_after}
use Rattle.sf_slots.specs.Told.{last_item, replaced_slot, same_state, slot_if_droppable, usable_with}
use Rattle.sf_slots.proofs.TellsGone.{happening-append}
use Rattle.law_rights.specs.Slots.{is_home_after}
use Rattle.law_rights.proofs.Homes.{ComeHome, StayHome, WaitsQueued, home_all_gone, home_back, home_hand, home_kept_back, home_lend, home_lend_new, home_mark, home_take, home_take_new, home_unmark, items_wait, nothing_happens, queued_home, then_stays}

-- the slot into which a call brings a right
abbrev pub slot_filled : PlainCall → PlainReply → Option ℕ
slot_filled (call.Queue lease picture width height time crop fence) (reply.Queued frame) = Some lease.slot.0
slot_filled (call.Cancel lease fence) reply.Done = Some lease.slot.0
slot_filled (call.Release lease fence) reply.Done = Some lease.slot.0
slot_filled asked given = None

abbrev pub HomesAfter : Option ℕ → List Event → List Event → Type 0
HomesAfter None old new = StayHome old new
HomesAfter (Some slot) old new = ComeHome old new slot

-- a frame that gives way frees the slot in which its right lay
replaced_back : (es : List Event) (item : PlainItem) (slot : Option ℕ) → ((s : ℕ) → slot ≡ Some s → is_home_after es s ≡ true) → ComeHome es (happening (back_if slot) (Hand item ∷ es)) item.slot.0
replaced_back es item None home = home_hand item es
replaced_back es item (Some r) home = record { stays = λ s now. by_case s ((home_back r None (Hand item ∷ es)).stays s now) }
  where
    by_case : (s : ℕ) → (s ≡ r) ⊎ (is_home_after (Hand item ∷ es) s ≡ true) → (s ≡ item.slot.0) ⊎ (is_home_after es s ≡ true)
    by_case s (inl same) = inr (subst (λ (t : ℕ). is_home_after es t ≡ true) (sym same) (home r refl))
    by_case s (inr now) = (home_hand item es).stays s now

droppable_waits : (es : List Event) (item : Option PlainItem) (s : ℕ) → ((found : PlainItem) → item ≡ Some found → WaitsQueued es found) → slot_if_droppable item ≡ Some s → is_home_after es s ≡ true
droppable_waits es None s waits there = cc
droppable_waits es (Some item) s waits there = elim (cases_Bool item.droppable) [
  | inl met ↦
      let same : item.slot.0 ≡ s = cc (rw met at there) in
      subst (λ (t : ℕ). is_home_after es t ≡ true) same (queued_home (slot_after es item.slot.0) (waits item refl))
  | inr unmet ↦ absurd (cc (rw unmet at there))
]

-- an item that is found is one of the list
pub got : {A : Type 0} (xs : List A) (i : ℕ) (x : A) → slice_get xs i ≡ Some x → Contains xs x
got xs i x there = (i, slice_get_within xs i x there, get_or_from_slice_get xs i x x there)

last_waits : (es : List Event) (s : ℕ) → replaced_slot (items_after es) ≡ Some s → is_home_after es s ≡ true
last_waits es s there = droppable_waits es (last_item (items_after es)) s (λ found is. waits_at (items_after es) (length (items_after es) - 1) found (items_wait es) is) there
  where
    waits_at : (items : List PlainItem) (i : ℕ) (found : PlainItem) → All (WaitsQueued es) items → slice_get items i ≡ Some found → WaitsQueued es found
    waits_at items i found waits is = All-contains (WaitsQueued es) items found waits (got items i found is)

-- slots lose their buffers, and no buffer counts as requested
gone_unmarked : (slots : List ℕ) (es : List Event) → StayHome es (happening (map Gone slots ++ Unmark ∷ []) es)
gone_unmarked slots es = subst (λ (new : List Event). StayHome es new) (sym (happening-append (map Gone slots) (Unmark ∷ []) es))
    (then_stays es (happening (map Gone slots) es) (Unmark ∷ happening (map Gone slots) es) (home_all_gone slots es) (home_unmark (happening (map Gone slots) es)))

-- items are dropped, and the next one's slot goes to the consumer
taken_after : (items : List PlainItem) (slot : ℕ) (es : List Event) → All (WaitsQueued es) items → StayHome es (happening (map kept_back items ++ Take slot ∷ []) es)
taken_after items slot es waits = subst (λ (new : List Event). StayHome es new) (sym (happening-append (map kept_back items) (Take slot ∷ []) es))
    (then_stays es (happening (map kept_back items) es) (Take slot ∷ happening (map kept_back items) es) (home_kept_back items es es waits (nothing_happens es)) (home_take slot (happening (map kept_back items) es)))

abbrev slots_leaving : List Entry → ℕ → List ℕ
slots_leaving history count = filter (λ s. same_state (state_after (events history) s) Free) (no_longer_usable history count)

pub homes_after : (history : List Entry) (asked : PlainCall) (given : PlainReply)
    → HomesAfter (slot_filled asked given) (events history) (happening (events_of (events history) history asked given) (events history))
homes_after history call.Disconnect reply.Done = gone_unmarked (filter (λ s. is_back_or_lent (state_after (events history) s)) all_slots) (events history)
homes_after history (call.Queue lease picture width height time crop fence) (reply.Queued frame) = replaced_back (events history) _ (replaced_slot (items_after (events history))) (last_waits (events history))
homes_after history (call.Cancel lease fence) reply.Done = home_back lease.slot.0 (Some fence) (events history)
homes_after history (call.Release lease fence) reply.Done = home_back lease.slot.0 (Some fence) (events history)
homes_after history (call.MaxDequeued n) reply.Done = home_all_gone (slots_leaving history (usable_with (max_acquired history) n (asynchronous history))) (events history)
homes_after history (call.Async on) reply.Done = home_all_gone (slots_leaving history (usable_with (max_acquired history) (max_dequeued history) on)) (events history)
homes_after history (call.MaxAcquired n) reply.Done = home_all_gone (slots_leaving history (usable_with n (max_dequeued history) (asynchronous history))) (events history)
homes_after history (call.Dequeue width height wait) (reply.Dequeued slot held requested true fence) = home_lend_new slot.0 held.width held.height Dequeuing (events history)
homes_after history (call.Dequeue width height wait) (reply.Dequeued slot held requested false fence) = home_lend slot.0 (events history)
homes_after history (call.Request lease) (reply.Requested held) = home_mark lease.slot.0 (events history)
homes_after history (call.Detach lease) reply.Done = home_all_gone (lease.slot.0 ∷ []) (events history)
homes_after history (call.Attach held) (reply.Attached slot new) = home_lend_new slot.0 new.width new.height Producer (events history)
homes_after history call.Abandon reply.Done = home_all_gone all_slots (events history)
homes_after history (call.Acquire expected) (reply.Acquired item dropped) = taken_after (take dropped (items_after (events history))) item.slot.0 (events history) (All-take (WaitsQueued (events history)) dropped (items_after (events history)) (items_wait (events history)))
homes_after history (call.DetachRead lease) reply.Done = home_all_gone (lease.slot.0 ∷ []) (events history)
homes_after history (call.AttachRead held) (reply.Attached slot new) = home_take_new slot.0 new.width new.height Consumer (events history)
homes_after history asked given = nothing_happens (events history)
