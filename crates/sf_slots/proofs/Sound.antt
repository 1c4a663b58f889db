-- Each move keeps what every queue keeps.
use Rattle.std.proofs.Common.{◌≡◌, inl, inr, ℕ, ◌+◌, ◌<◌, ◌≤◌, Bool, true, false, not, ◌==◌, ◌&&◌, is_some, zero, List, [], ◌∷◌, ◌++◌, length, get_or, set, arith, ap, ◌∙◌, sym, refl, map, Option, Some, None, take, drop, slice_get, IfSome, IsSome, ◌-◌, suc, subst}
use Rattle.std.proofs.lemmas.Bool.{cases_Bool}
use Rattle.std.proofs.lemmas.Bool.Decides.{nat_tests}
use Rattle.std.proofs.lemmas.List.{get_or-replicate, get_or-set_same, get_or-set_other, length-set, take_more, map-append}
use Rattle.std.proofs.Math.Seq.{take-length}
use Rattle.std.proofs.lemmas.List.{length-take, get_or-take}
use Rattle.std.proofs.lemmas.List.Quantifiers.{position-Some}
use Rattle.std.specs.Prelude.{nat_lt}
use Rattle.std.specs.List.{position}
use Rattle.std.proofs.lemmas.Option.{get_or_from_slice_get, slice_get_within}
use Rattle.sf_base.specs.Fences.{Fence, no_points}
use Rattle.sf_base.specs.declared.ids.QueueId.{QueueId}
use Rattle.sf_slots.specs.declared.item.Item.{Item}
use Rattle.sf_slots.specs.declared.slot.Slot.{Slot}
use Rattle.sf_slots.specs.declared.slot.SlotState.{SlotState}
use Rattle.sf_slots.specs.declared.slot.SlotState.TheVariants.{Free, Dequeued, Queued, Acquired}
use Rattle.sf_slots.specs.Told.{unused, is_in, is_bare, same_state, usable}
use Rattle.sf_slots.specs.Queue.{Queue, empty_queue, IsSound, IsKept, IsLentWith, IsFreeSlot, is_stored, without, IsOut, next_held, ListsSlots, contains, slot_in, right_in, slot_number, lent, taken, seated, marked, returned, cleared, kept_back, handed_over, last_in, appended, unmarked, emptied, without_marks, given_up}
use Rattle.sf_slots.proofs.Lists.{has_room, absent_from, ListsSlots-set, ListsSlots-without, ListsSlots-push, ListsSlots-restate, ListsSlots-tail, ListsSlots-init, absent_before, contains-append, contains-without, free_state, read-map, ListsSlots-none, ListsSlots-map, length-mapped}

pub left_true : (a b : Bool) → (a && b) ≡ true → a ≡ true
left_true true b met = refl
left_true false b met = met

-- the tests for a state
not_free : (state : SlotState) → (state ≡ Free → ⊥) → same_state state Free ≡ false
not_free Free other = absurd (other refl)
not_free Dequeued other = refl
not_free Queued other = refl
not_free Acquired other = refl

not_queued : (state : SlotState) → (state ≡ Queued → ⊥) → same_state state Queued ≡ false
not_queued Free other = refl
not_queued Dequeued other = refl
not_queued Queued other = absurd (other refl)
not_queued Acquired other = refl

-- a slot that is not free has neither right nor place in the freed list, and may be used
pub record IsAway {R : Type 0} (slot : Slot) (in_it : Option R) (is_listed is_usable : Bool) : Type 0 where
  pub stored : is_stored slot ≡ false
  pub right : is_some in_it ≡ false
  pub listed : is_listed ≡ false
  pub inside : is_usable ≡ true

pub away : {R : Type 0} (slot : Slot) (in_it : Option R) (l u : Bool) → IsKept slot in_it l u → (slot.state ≡ Free → ⊥) → IsAway slot in_it l u
away slot in_it l u kept other =
    let closed = not_free slot.state other in
    let stored : is_stored slot ≡ false = ap (λ b. b && is_some slot.held) closed in
    record {
      stored = stored;
      right = kept.right ∙ stored;
      listed = kept.listed ∙ stored;
      inside = elim (cases_Bool u) [ inl met ↦ met | inr unmet ↦ absurd (cc (left_true (is_in Free slot) (not (is_some slot.held)) (kept.outside unmet), closed)) ];
    }

-- a slot that goes out keeps nothing
kept-away : {R : Type 0} (slot : Slot) (in_it : Option R) (l u : Bool) → is_in Free slot ≡ false → is_some in_it ≡ false → l ≡ false → u ≡ true → (is_in Queued slot ≡ true → is_some slot.held ≡ true) → IsKept slot in_it l u
kept-away slot in_it l u closed right listed inside queued =
    let stored : is_stored slot ≡ false = ap (λ b. b && is_some slot.held) closed in
    record { right = right ∙ sym stored; listed = listed ∙ sym stored; queued = queued; outside = λ outside. absurd (cc (inside, outside)) }

-- a slot that comes back with its buffer keeps the right
kept-stored : {R : Type 0} (slot : Slot) (fence : Fence) (right : R) (u : Bool) → is_some slot.held ≡ true → u ≡ true → IsKept (record slot { state = Free; fence = fence }) (Some right) true u
kept-stored slot fence right u buffer inside = record { right = sym buffer; listed = sym buffer; queued = λ met. absurd (cc (met)); outside = λ outside. absurd (cc (inside, outside)) }

-- an empty slot keeps nothing
kept-emptied : {R : Type 0} (slot : Slot) (u : Bool) → IsKept {R = R} (emptied slot) None false u
kept-emptied slot u = record { right = refl; listed = refl; queued = λ met. absurd (cc (met)); outside = λ _. refl }

-- a slot changes with its right, and the freed list at most at it
each-both : {R : Type 0} (slots : List Slot) (rights : List (Option R)) (before after : List ℕ) (u : ℕ) → length slots ≡ 64 → length rights ≡ 64 → ((t : ℕ) → t < 64 → IsKept (get_or slots t unused) (get_or rights t None) (contains before t) (nat_lt t u)) → (s : ℕ) (slot : Slot) (right : Option R) → ((t : ℕ) → (t ≡ s → ⊥) → contains after t ≡ contains before t) → (s < 64 → IsKept slot right (contains after s) (nat_lt s u)) → (t : ℕ) → t < 64 → IsKept (get_or (set slots s slot) t unused) (get_or (set rights s right) t None) (contains after t) (nat_lt t u)
each-both {R} slots rights before after u sized rights_sized each s slot right others now t low = elim (cases_Bool (t == s)) [
  | inl met ↦ let here : t ≡ s = grind (arith, nat_tests, met) in rw (here, get_or-set_same slots s slot unused (omega (arith, here)), get_or-set_same rights s right None (omega (arith, here))) (now (omega (arith, here, low)))
  | inr unmet ↦ let other : (t ≡ s) → ⊥ = (λ e. grind (arith, nat_tests, unmet, e)) in rw (get_or-set_other slots s t slot unused other, get_or-set_other rights s t right None other, others t other) (each t low)
]

-- a slot changes, and its right stays
each-slot : {R : Type 0} (slots : List Slot) (rights : List (Option R)) (freed : List ℕ) (u : ℕ) → length slots ≡ 64 → ((t : ℕ) → t < 64 → IsKept (get_or slots t unused) (get_or rights t None) (contains freed t) (nat_lt t u)) → (s : ℕ) (slot : Slot) → (s < 64 → IsKept slot (get_or rights s None) (contains freed s) (nat_lt s u)) → (t : ℕ) → t < 64 → IsKept (get_or (set slots s slot) t unused) (get_or rights t None) (contains freed t) (nat_lt t u)
each-slot {R} slots rights freed u sized each s slot now t low = elim (cases_Bool (t == s)) [
  | inl met ↦ let here : t ≡ s = grind (arith, nat_tests, met) in rw (here, get_or-set_same slots s slot unused (omega (arith, here))) (now (omega (arith, here, low)))
  | inr unmet ↦ let other : (t ≡ s) → ⊥ = (λ e. grind (arith, nat_tests, unmet, e)) in rw (get_or-set_other slots s t slot unused other) (each t low)
]

-- the freed list without a slot, and with one more
without-others : (freed : List ℕ) (s t : ℕ) → (t ≡ s → ⊥) → contains (without s freed) t ≡ contains freed t
without-others freed s t other = grind (arith, nat_tests, contains-without freed s t, other)

without-it : (freed : List ℕ) (s : ℕ) → contains (without s freed) s ≡ false
without-it freed s = grind (arith, nat_tests, contains-without freed s s)

push-others : (freed : List ℕ) (s t : ℕ) → (t ≡ s → ⊥) → contains (freed ++ s ∷ []) t ≡ contains freed t
push-others freed s t other = grind (arith, nat_tests, contains-append freed (s ∷ []) t, other)

push-it : (freed : List ℕ) (s : ℕ) → contains (freed ++ s ∷ []) s ≡ true
push-it freed s = grind (arith, nat_tests, contains-append freed (s ∷ []) s)

-- a slot is numbered below the usable ones
below_test : (s u : ℕ) → s < u → nat_lt s u ≡ true
below_test s u low = grind (arith, nat_tests, low)

kept-unused : {R : Type 0} (u : Bool) → IsKept {R = R} unused None false u
kept-unused u = record { right = refl; listed = refl; queued = λ met. absurd (cc (met)); outside = λ _. refl }

pub IsSound-empty : {R : Type 0} (number : QueueId) (width height : ℕ) → IsSound (empty_queue {R = R} number width height)
IsSound-empty {R} number width height = record {
  sized = refl;
  rights_sized = refl;
  fits = omega arith;
  each = λ s low. rw (get_or-replicate 64 s unused unused low, none_there s low) (kept-unused {R = R} (nat_lt s 2));
  freed = ListsSlots-none _ _;
  items = ListsSlots-none _ _;
} where
  none_there : (s : ℕ) → s < 64 → right_in (empty_queue {R = R} number width height) s ≡ None
  none_there s low = get_or-replicate 64 s None None low

pub IsSound-lent : {R : Type 0} {q : Queue R} → IsSound q → (s : ℕ) → s < usable q.settings → (slot_in q s).state ≡ Free → IsSound (lent q s)
IsSound-lent {R} {q} sound s inside free =
    let out : Slot = record (slot_in q s) { state = Dequeued; fence = no_points } in
    record {
      sized = rw length-set sound.sized;
      rights_sized = rw length-set sound.rights_sized;
      fits = sound.fits;
      each = each-both q.slots q.rights q.freed (without s q.freed) (usable q.settings) sound.sized sound.rights_sized sound.each s out None (without-others q.freed s)
          (λ low. kept-away out None (contains (without s q.freed) s) (nat_lt s (usable q.settings)) refl refl (without-it q.freed s) (below_test s (usable q.settings) inside) (λ met. absurd (cc (met))));
      freed = ListsSlots-without sound.freed s _;
      items = ListsSlots-set sound.items s _ (absent_from sound.items s (λ e. cc (free, e)));
    }

pub IsSound-taken : {R : Type 0} {q : Queue R} → IsSound q → (s : ℕ) → s < usable q.settings → (slot_in q s).state ≡ Free → IsSound (taken q s)
IsSound-taken {R} {q} sound s inside free =
    let out : Slot = record (slot_in q s) { state = Acquired; frame = 0; fence = no_points } in
    record {
      sized = rw length-set sound.sized;
      rights_sized = rw length-set sound.rights_sized;
      fits = sound.fits;
      each = each-both q.slots q.rights q.freed (without s q.freed) (usable q.settings) sound.sized sound.rights_sized sound.each s out None (without-others q.freed s)
          (λ low. kept-away out None (contains (without s q.freed) s) (nat_lt s (usable q.settings)) refl refl (without-it q.freed s) (below_test s (usable q.settings) inside) (λ met. absurd (cc (met))));
      freed = ListsSlots-without sound.freed s _;
      items = ListsSlots-set sound.items s _ (absent_from sound.items s (λ e. cc (free, e)));
    }

-- a slot that is out or queued comes back with a buffer, and is last in the freed list
each-back : {R : Type 0} (q : Queue R) → IsSound q → (s : ℕ) (fence : Fence) (right : R) → ((slot_in q s).state ≡ Free → ⊥) → is_some (slot_in q s).held ≡ true → (t : ℕ) → t < 64 → IsKept (get_or (set q.slots s (record (slot_in q s) { state = Free; fence = fence })) t unused) (get_or (set q.rights s (Some right)) t None) (contains (q.freed ++ s ∷ []) t) (nat_lt t (usable q.settings))
each-back {R} q sound s fence right other buffer =
    each-both q.slots q.rights q.freed (q.freed ++ s ∷ []) (usable q.settings) sound.sized sound.rights_sized sound.each s (record (slot_in q s) { state = Free; fence = fence }) (Some right) (push-others q.freed s)
    (λ low.
    let was = away (slot_in q s) (right_in q s) (contains q.freed s) (nat_lt s (usable q.settings)) (sound.each s low) other in
    rw (push-it q.freed s) (kept-stored (slot_in q s) fence right (nat_lt s (usable q.settings)) buffer was.inside))

pub IsSound-returned : {R : Type 0} {q : Queue R} → IsSound q → (s : ℕ) (right : R) (fence : Fence) → s < 64 → IsOut (slot_in q s).state → IsSome (slot_in q s).held → IsSound (returned q s right fence)
IsSound-returned {R} {q} sound s right fence low out buffer = record {
  sized = rw length-set sound.sized;
  rights_sized = rw length-set sound.rights_sized;
  fits = sound.fits;
  each = each-back q sound s fence right out.not_free buffer;
  freed = ListsSlots-push sound.freed s _ (rw sound.sized low) (absent_from sound.freed s out.not_free) refl;
  items = ListsSlots-set sound.items s _ (absent_from sound.items s out.not_queued);
}

pub IsSound-cleared : {R : Type 0} {q : Queue R} → IsSound q → (s : ℕ) → ((slot_in q s).state ≡ Queued → ⊥) → IsSound (cleared q s)
IsSound-cleared {R} {q} sound s other = record {
  sized = rw length-set sound.sized;
  rights_sized = rw length-set sound.rights_sized;
  fits = sound.fits;
  each = each-both q.slots q.rights q.freed (without s q.freed) (usable q.settings) sound.sized sound.rights_sized sound.each s (emptied (slot_in q s)) None (without-others q.freed s)
      (λ low. rw (without-it q.freed s) (kept-emptied {R = R} (slot_in q s) (nat_lt s (usable q.settings))));
  freed = ListsSlots-without sound.freed s _;
  items = ListsSlots-set sound.items s _ (absent_from sound.items s other);
}

pub IsSound-seated : {R : Type 0} {q : Queue R} → IsSound q → (s width height : ℕ) (requested : Bool) → s < 64 → IsOut (slot_in q s).state → IsSound (seated q s width height requested)
IsSound-seated {R} {q} sound s width height requested low out =
    let slot : Slot = record (slot_in q s) { held = Some (next_held q width height); requested = requested } in
    let was = away (slot_in q s) (right_in q s) (contains q.freed s) (nat_lt s (usable q.settings)) (sound.each s low) out.not_free in
    record {
      sized = rw length-set sound.sized;
      rights_sized = sound.rights_sized;
      fits = sound.fits;
      each = each-slot q.slots q.rights q.freed (usable q.settings) sound.sized sound.each s slot (λ _. kept-away slot (right_in q s) (contains q.freed s) (nat_lt s (usable q.settings)) (not_free slot.state out.not_free) was.right was.listed was.inside (λ met. refl));
      freed = ListsSlots-restate sound.freed s _ (rw sound.sized low) refl;
      items = ListsSlots-restate sound.items s _ (rw sound.sized low) refl;
    }

-- the mark of a slot changes nothing else
kept-marked : {R : Type 0} (slot : Slot) (requested : Bool) (in_it : Option R) (l u : Bool) → IsKept slot in_it l u → IsKept (record slot { requested = requested }) in_it l u
kept-marked slot requested in_it l u kept = record { right = kept.right; listed = kept.listed; queued = kept.queued; outside = kept.outside }

pub IsSound-marked : {R : Type 0} {q : Queue R} → IsSound q → (s : ℕ) → s < 64 → IsSound (marked q s)
IsSound-marked {R} {q} sound s low = record {
  sized = rw length-set sound.sized;
  rights_sized = sound.rights_sized;
  fits = sound.fits;
  each = each-slot q.slots q.rights q.freed (usable q.settings) sound.sized sound.each s (record (slot_in q s) { requested = true }) (λ _. kept-marked (slot_in q s) true (right_in q s) (contains q.freed s) (nat_lt s (usable q.settings)) (sound.each s low));
  freed = ListsSlots-restate sound.freed s _ (rw sound.sized low) refl;
  items = ListsSlots-restate sound.items s _ (rw sound.sized low) refl;
}

-- a list by its first element, or by its last
pub first_is : {X : Type 0} (xs : List X) (x : X) → slice_get xs 0 ≡ Some x → xs ≡ x ∷ drop 1 xs
first_is [] x first = cc (first)
first_is (y ∷ ys) x first = cc (first)

pub last_is : {X : Type 0} (xs : List X) (x : X) → slice_get xs (length xs - 1) ≡ Some x → xs ≡ take (length xs - 1) xs ++ x ∷ []
last_is xs x last =
    let within = slice_get_within xs (length xs - 1) x last in
    let whole : length xs - 1 + 1 ≡ length xs = omega (arith, within) in
    sym (take-length xs) ∙ ap (λ n. take n xs) (sym whole) ∙ take_more xs (length xs - 1) x within ∙ ap (λ y. take (length xs - 1) xs ++ y ∷ []) (get_or_from_slice_get xs (length xs - 1) x x last)

-- an item's slot is queued, and no other item has it
pub record IsAlone {R : Type 0} (q : Queue R) (item : Item R) (others : List (Item R)) : Type 0 where
  pub low : item.slot.0 < 64
  pub queued : (slot_in q item.slot.0).state ≡ Queued
  pub listed : ListsSlots q.slots Queued (map slot_number others)
  pub once : contains (map slot_number others) item.slot.0 ≡ false

pub first_alone : {R : Type 0} (q : Queue R) (item : Item R) → IsSound q → slice_get q.items 0 ≡ Some item → IsAlone q item (drop 1 q.items)
first_alone {R} q item sound first =
    let P : List (Item R) → Type 0 = λ items. ListsSlots q.slots Queued (map slot_number items) in
    let whole : ListsSlots q.slots Queued (item.slot.0 ∷ map slot_number (drop 1 q.items)) = subst P (first_is q.items item first) sound.items in
    let member : contains (item.slot.0 ∷ map slot_number (drop 1 q.items)) item.slot.0 ≡ true = grind (arith, nat_tests) in
    record {
      low = rw (← sound.sized) (whole.below item.slot.0 member);
      queued = whole.stated item.slot.0 member;
      listed = ListsSlots-tail item.slot.0 whole;
      once = whole.apart.0;
    }

pub last_alone : {R : Type 0} (q : Queue R) (item : Item R) → IsSound q → last_in q.items ≡ Some item → IsAlone q item (take (length q.items - 1) q.items)
last_alone {R} q item sound last =
    let P : List (Item R) → Type 0 = λ items. ListsSlots q.slots Queued (map slot_number items) in
    let front : List (Item R) = take (length q.items - 1) q.items in
    let whole : ListsSlots q.slots Queued (map slot_number front ++ item.slot.0 ∷ []) = rw (← map-append slot_number front (item ∷ [])) (subst P (last_is q.items item last) sound.items) in
    let member : contains (map slot_number front ++ item.slot.0 ∷ []) item.slot.0 ≡ true = grind (arith, nat_tests, contains-append (map slot_number front) (item.slot.0 ∷ []) item.slot.0) in
    record {
      low = rw (← sound.sized) (whole.below item.slot.0 member);
      queued = whole.stated item.slot.0 member;
      listed = ListsSlots-init item.slot.0 whole;
      once = absent_before (map slot_number front) item.slot.0 whole.apart;
    }

pub IsSound-handed_over : {R : Type 0} (q : Queue R) (item : Item R) → IsSound q → IsAlone q item (drop 1 q.items) → IsSound (handed_over q item)
IsSound-handed_over {R} q item sound alone = record {
  sized = rw length-set sound.sized;
  rights_sized = sound.rights_sized;
  fits = sound.fits;
  each = each-slot q.slots q.rights q.freed (usable q.settings) sound.sized sound.each item.slot.0 (record (slot_in q item.slot.0) { state = Acquired; fence = no_points }) (λ low.
      let was = away (slot_in q item.slot.0) (right_in q item.slot.0) (contains q.freed item.slot.0) (nat_lt item.slot.0 (usable q.settings)) (sound.each item.slot.0 low) (λ e. cc (alone.queued, e)) in
      kept-away (record (slot_in q item.slot.0) { state = Acquired; fence = no_points }) (right_in q item.slot.0) (contains q.freed item.slot.0) (nat_lt item.slot.0 (usable q.settings)) refl was.right was.listed was.inside (λ met. absurd (cc (met))));
  freed = ListsSlots-set sound.freed item.slot.0 _ (absent_from sound.freed item.slot.0 (λ e. cc (alone.queued, e)));
  items = ListsSlots-set alone.listed item.slot.0 _ alone.once;
}

pub IsSound-kept_back : {R : Type 0} (q : Queue R) (item : Item R) (others : List (Item R)) → IsSound q → IsAlone q item others → IsSound (kept_back (record q { items = others }) item)
IsSound-kept_back {R} q item others sound alone = record {
  sized = rw length-set sound.sized;
  rights_sized = rw length-set sound.rights_sized;
  fits = sound.fits;
  each = each-back q sound item.slot.0 (slot_in q item.slot.0).fence item.right (λ e. cc (alone.queued, e)) ((sound.each item.slot.0 alone.low).queued (ap (λ state. same_state state Queued) alone.queued));
  freed = ListsSlots-push sound.freed item.slot.0 _ (rw sound.sized alone.low) (absent_from sound.freed item.slot.0 (λ e. cc (alone.queued, e))) refl;
  items = ListsSlots-set alone.listed item.slot.0 _ alone.once;
}

-- the freed list has room for an item's slot
pub room_for_item : {R : Type 0} (q : Queue R) (item : Item R) (others : List (Item R)) → IsSound q → IsAlone q item others → length q.freed < 64
room_for_item q item others sound alone =
    let room = has_room sound.freed item.slot.0 (rw sound.sized alone.low) (absent_from sound.freed item.slot.0 (λ e. cc (alone.queued, e))) in
    omega (arith, room, sound.sized)

pub IsSound-appended : {R : Type 0} (q : Queue R) (item : Item R) → IsSound q → item.slot.0 < 64 → IsLentWith q item.slot.0 item.held → IsSound (appended q item)
IsSound-appended {R} q item sound low lent = let out = lent.lent in record {
  sized = rw length-set sound.sized;
  rights_sized = sound.rights_sized;
  fits = sound.fits;
  each = each-slot q.slots q.rights q.freed (usable q.settings) sound.sized sound.each item.slot.0 (record (slot_in q item.slot.0) { state = Queued; frame = item.frame; fence = item.fence }) (λ _.
      let was = away (slot_in q item.slot.0) (right_in q item.slot.0) (contains q.freed item.slot.0) (nat_lt item.slot.0 (usable q.settings)) (sound.each item.slot.0 low) (λ e. cc (out, e)) in
      kept-away (record (slot_in q item.slot.0) { state = Queued; frame = item.frame; fence = item.fence }) (right_in q item.slot.0) (contains q.freed item.slot.0) (nat_lt item.slot.0 (usable q.settings)) refl was.right was.listed was.inside (λ _. ap is_some lent.here));
  freed = ListsSlots-set sound.freed item.slot.0 _ (absent_from sound.freed item.slot.0 (λ e. cc (out, e)));
  items = rw (map-append slot_number q.items (item ∷ [])) (ListsSlots-push sound.items item.slot.0 _ (rw sound.sized low) (absent_from sound.items item.slot.0 (λ e. cc (out, e))) refl);
}

length-slot_numbers : {R : Type 0} (items : List (Item R)) → length (map slot_number items) ≡ length items
length-slot_numbers [] = refl
length-slot_numbers (item ∷ items) = ap (λ n. suc n) (length-slot_numbers items)

-- the items have room for one more
pub room_for_slot : {R : Type 0} (q : Queue R) (s : ℕ) → IsSound q → s < 64 → (slot_in q s).state ≡ Dequeued → length q.items < 64
room_for_slot q s sound low out =
    let room = has_room sound.items s (rw sound.sized low) (absent_from sound.items s (λ e. cc (out, e))) in
    omega (arith, room, sound.sized, length-slot_numbers q.items)

pub IsSound-without_marks : {R : Type 0} {q : Queue R} → IsSound q → IsSound (without_marks q)
IsSound-without_marks {R} {q} sound = record {
  sized = length-mapped unmarked q.slots ∙ sound.sized;
  rights_sized = sound.rights_sized;
  fits = sound.fits;
  each = λ t low. rw (read-map unmarked q.slots t (omega (arith, low, sound.sized))) (kept-marked (slot_in q t) false (right_in q t) (contains q.freed t) (nat_lt t (usable q.settings)) (sound.each t low));
  freed = ListsSlots-map unmarked (λ slot. refl) sound.freed;
  items = ListsSlots-map unmarked (λ slot. refl) sound.items;
}

-- an empty slot keeps nothing
each-emptied : {R : Type 0} (slots : List Slot) (rights : List (Option R)) (t u : ℕ) → t < length slots → IsKept {R = R} (get_or (map emptied slots) t unused) (get_or (map (λ (right : Option R). None) rights) t None) false (nat_lt t u)
each-emptied {R} slots rights t u low = rw (read-map emptied slots t low) (at_place rights t) where
  at_place : (rights : List (Option R)) (k : ℕ) → IsKept {R = R} (emptied (get_or slots t unused)) (get_or (map (λ (right : Option R). None) rights) k None) false (nat_lt t u)
  at_place [] k = kept-emptied {R = R} (get_or slots t unused) (nat_lt t u)
  at_place (right ∷ rights) zero = kept-emptied {R = R} (get_or slots t unused) (nat_lt t u)
  at_place (right ∷ rights) (suc k) = at_place rights k

pub IsSound-given_up : {R : Type 0} {q : Queue R} → IsSound q → IsSound (given_up q)
IsSound-given_up {R} {q} sound = record {
  sized = length-mapped emptied q.slots ∙ sound.sized;
  rights_sized = length-mapped (λ right. None) q.rights ∙ sound.rights_sized;
  fits = sound.fits;
  each = λ t low. each-emptied q.slots q.rights t (usable q.settings) (omega (arith, low, sound.sized));
  freed = ListsSlots-none _ _;
  items = ListsSlots-none _ _;
}

stored_or_bare : (free there : Bool) → (free && there) ≡ true → (free && not there) ≡ true → ⊥
stored_or_bare true true stored bare = cc (bare)
stored_or_bare true false stored bare = cc (stored)
stored_or_bare false there stored bare = cc (stored)

-- a free slot with a buffer may be used
pub inside_from : {R : Type 0} {slot : Slot} {in_it : Option R} {l : Bool} {s u : ℕ} → IsKept slot in_it l (nat_lt s u) → is_stored slot ≡ true → s < u
inside_from {R} {slot} {in_it} {l} {s} {u} kept stored = elim (cases_Bool (nat_lt s u)) [
  | inl met ↦ grind (arith, nat_tests, met)
  | inr unmet ↦ absurd (stored_or_bare (is_in Free slot) (is_some slot.held) stored (kept.outside unmet))
]

-- the slot that was freed longest ago may be used and is free
pub first_is_free : {R : Type 0} (q : Queue R) → IsSound q → IfSome (slice_get q.freed 0) (IsFreeSlot q)
first_is_free {R} q sound = first_of q.freed refl where
  first_of : (freed : List ℕ) → freed ≡ q.freed → IfSome (slice_get freed 0) (IsFreeSlot q)
  first_of [] same = tt
  first_of (x ∷ xs) same =
      let member : contains q.freed x ≡ true = rw (← same) (grind (arith, nat_tests)) in
      let low : x < 64 = rw (← sound.sized) (sound.freed.below x member) in
      let kept = sound.each x low in
      record { inside = inside_from kept (sym kept.listed ∙ member); below = low; free = sound.freed.stated x member }

-- the lowest slot without a buffer is free
pub bare_is_free : {R : Type 0} (q : Queue R) (n i : ℕ) → IsSound q → n ≡ usable q.settings → position is_bare (take n q.slots) ≡ Some i → IsFreeSlot q i
bare_is_free {R} q n i sound many first =
    let found : position is_bare (take (usable q.settings) q.slots) ≡ Some i = rw (← many) first in
    let at = position-Some is_bare (take (usable q.settings) q.slots) i unused found in
    let shorter : length (take (usable q.settings) q.slots) ≤ length q.slots = simp length-take (omega arith) in
    let below : i < usable q.settings = omega (arith, at.0, length-take (usable q.settings) q.slots) in
    let same : get_or (take (usable q.settings) q.slots) i unused ≡ get_or q.slots i unused = get_or-take (usable q.settings) q.slots i unused below in
    let bare : is_bare (get_or q.slots i unused) ≡ true = rw same at at.1 in
    record {
      inside = below;
      below = omega (arith, at.0, shorter, sound.sized);
      free = free_state (get_or q.slots i unused).state (left_true (is_in Free (get_or q.slots i unused)) (not (is_some (get_or q.slots i unused).held)) bare);
    }
