-- A usable free slot is found exactly where there is one.
use Rattle.std.proofs.Common.{◌≡◌, ℕ, ◌+◌, ◌<◌, Bool, true, false, not, ◌&&◌, is_some, zero, suc, List, [], ◌∷◌, length, get_or, arith, ◌∙◌, sym, refl, Option, Some, None, take, cond, inl, inr}
use Rattle.std.specs.Prelude.{nat_lt}
use Rattle.std.specs.List.{list_any, position, position_or_len}
use Rattle.std.specs.Option.{option_or}
use Rattle.std.proofs.lemmas.Bool.{cases_Bool}
use Rattle.std.proofs.lemmas.Bool.Decides.{nat_tests}
use Rattle.std.proofs.lemmas.List.{length-take, get_or-take}
use Rattle.std.proofs.lemmas.List.Folds.{list_any_at}
use Rattle.sf_slots.specs.declared.slot.Slot.{Slot}
use Rattle.sf_slots.specs.declared.slot.SlotState.TheVariants.{Free}
use Rattle.sf_slots.specs.Told.{unused, is_in, is_bare, usable, has_free, slot_for, lowest_bare}
use Rattle.sf_slots.specs.Queue.{Queue, IsSound, contains, is_stored, slot_in, told_of}
use Rattle.sf_slots.proofs.Sound.{inside_from, left_true}

-- a place is found where the test passes somewhere
lt-suc : (a b : ℕ) → nat_lt (1 + a) (suc b) ≡ nat_lt a b
lt-suc a b = elim (cases_Bool (nat_lt a b)) [
  | inl met ↦ grind (arith, nat_tests, met)
  | inr unmet ↦ grind (arith, nat_tests, unmet)
]

reached : (p : Slot → Bool) (slots : List Slot) → nat_lt (position_or_len p slots) (length slots) ≡ list_any p slots
reached p [] = refl
reached p (slot ∷ slots) = elim (cases_Bool (p slot)) [
  | inl met ↦ rw met (grind (arith, nat_tests))
  | inr unmet ↦ rw unmet (lt-suc (position_or_len p slots) (length slots) ∙ reached p slots)
]

some_if : (b : Bool) (n : ℕ) → is_some (cond b (Some n) None) ≡ b
some_if true n = refl
some_if false n = refl

is_some-position : (p : Slot → Bool) (slots : List Slot) → is_some (position p slots) ≡ list_any p slots
is_some-position p slots = some_if (nat_lt (position_or_len p slots) (length slots)) (position_or_len p slots) ∙ reached p slots

-- two tests that agree on each element of a list
list_any-same : (p q : Slot → Bool) (slots : List Slot) → ((k : ℕ) → k < length slots → p (get_or slots k unused) ≡ q (get_or slots k unused)) → list_any p slots ≡ list_any q slots
list_any-same p q [] same = refl
list_any-same p q (slot ∷ slots) same =
    let here : p slot ≡ q slot = same zero (omega arith) in
    let there = list_any-same p q slots (λ k low. same (suc k) (omega (arith, low))) in
    cc

bare_or_stored : (slot : Slot) → is_stored slot ≡ false → is_bare slot ≡ is_in Free slot
bare_or_stored slot none = by_cases (is_in Free slot) (is_some slot.held) none where
  by_cases : (free there : Bool) → (free && there) ≡ false → (free && not there) ≡ free
  by_cases true true none = cc (none)
  by_cases true false none = refl
  by_cases false there none = refl

back_found : {A : Type 0} (a : Option A) (b : Option A) → is_some b ≡ true → is_some (option_or a b) ≡ true
back_found (Some x) b there = refl
back_found None b there = there

none_or : {A : Type 0} (a : Option A) → is_some (option_or a None) ≡ is_some a
none_or (Some x) = refl
none_or None = refl

-- where no buffer was freed, each usable free slot has none
none_freed : {R : Type 0} (q : Queue R) → IsSound q → q.freed ≡ [] → list_any is_bare (take (usable q.settings) q.slots) ≡ list_any (is_in Free) (take (usable q.settings) q.slots)
none_freed {R} q sound empty = list_any-same is_bare (is_in Free) (take (usable q.settings) q.slots) (λ k low.
    let within : k < usable q.settings = omega (arith, low, length-take (usable q.settings) q.slots) in
    let place : get_or (take (usable q.settings) q.slots) k unused ≡ get_or q.slots k unused = get_or-take (usable q.settings) q.slots k unused within in
    let unlisted : contains q.freed k ≡ false = rw empty refl in
    let kept = sound.each k (omega (arith, within, sound.fits)) in
    rw place (bare_or_stored (get_or q.slots k unused) (sym kept.listed ∙ unlisted)))

-- where a buffer was freed, its slot may be used and is free
some_freed : {R : Type 0} (q : Queue R) → IsSound q → (s : ℕ) (more : List ℕ) → q.freed ≡ s ∷ more → list_any (is_in Free) (take (usable q.settings) q.slots) ≡ true
some_freed {R} q sound s more first =
    let member : contains q.freed s ≡ true = rw first (grind (arith, nat_tests)) in
    let low : s < 64 = rw (← sound.sized) (sound.freed.below s member) in
    let kept = sound.each s low in
    let stored : is_stored (slot_in q s) ≡ true = sym kept.listed ∙ member in
    let within : s < usable q.settings = inside_from kept stored in
    let place : get_or (take (usable q.settings) q.slots) s unused ≡ get_or q.slots s unused = get_or-take (usable q.settings) q.slots s unused within in
    list_any_at (is_in Free) (take (usable q.settings) q.slots) s unused
    (omega (arith, within, low, sound.sized, length-take (usable q.settings) q.slots))
    (rw place (left_true (is_in Free (slot_in q s)) (is_some (slot_in q s).held) stored))

pub slot_for-has_free : {R : Type 0} (q : Queue R) → IsSound q → (with_buffer : Bool) → is_some (slot_for with_buffer (told_of q)) ≡ has_free (told_of q)
slot_for-has_free {R} q sound with_buffer = by_front q.freed refl with_buffer where
  bare_there : q.freed ≡ [] → is_some (lowest_bare (told_of q)) ≡ has_free (told_of q)
  bare_there empty = is_some-position is_bare (take (usable q.settings) q.slots) ∙ none_freed q sound empty

  by_front : (freed : List ℕ) → q.freed ≡ freed → (with_buffer : Bool) → is_some (slot_for with_buffer (told_of q)) ≡ has_free (told_of q)
  by_front [] empty true = rw empty (bare_there empty)
  by_front [] empty false = rw empty (none_or (lowest_bare (told_of q)) ∙ bare_there empty)
  by_front (s ∷ more) first true = rw first (sym (some_freed q sound s more first))
  by_front (s ∷ more) first false = rw first (back_found (lowest_bare (told_of q)) (Some s) refl ∙ sym (some_freed q sound s more first))
