-- Which items an acquire drops.
use Rattle.std.proofs.Common.{◌≡◌, ◌<◌, ◌+◌, ℕ, Bool, true, false, not, ◌||◌, ◌&&◌, ◌==◌, nat_le, List, [], ◌∷◌, length, map, drop, Some, is_some, is_none, slice_get, inl, inr, arith, refl, add-one, sym}
use Rattle.std.proofs.lemmas.Bool.{cases_Bool}
use Rattle.std.proofs.lemmas.Bool.Decides.{nat_tests}
use Rattle.sf_slots.specs.declared.item.Item.{Item}
use Rattle.sf_slots.specs.declared.item.PlainItem.{PlainItem}
use Rattle.sf_slots.specs.Queue.{plain_item}
use Rattle.sf_slots.specs.Replies.{time_of, has_just_come, dropped_with, dropped_count, is_due, is_due_if_there}
use Rattle.sf_consume.specs.Acquiring.{second_time, goes_first, is_front_due}

-- where the first item goes, there is a second one
pub record HasTwo {R : Type 0} (items : List (Item R)) : Type 0 where
  pub front : Item R
  pub there : slice_get items 0 ≡ Some front
  pub more : 0 < length (drop 1 items)

pub has_two : {R : Type 0} (expected : ℕ) (items : List (Item R)) → goes_first expected (slice_get items 0) (second_time items) ≡ true → HasTwo items
has_two expected [] met = absurd (cc (met))
has_two expected (x ∷ []) met = absurd (cc (met))
has_two expected (x ∷ y ∷ rest) met = record { front = x; there = refl; more = omega arith }

pub count-goes : {R : Type 0} (expected : ℕ) (items : List (Item R)) → goes_first expected (slice_get items 0) (second_time items) ≡ true → dropped_count expected (map plain_item items) ≡ dropped_count expected (map plain_item (drop 1 items)) + 1
count-goes expected [] met = absurd (cc (met))
count-goes expected (x ∷ []) met = absurd (cc (met))
count-goes expected (x ∷ y ∷ rest) met = rw met refl

pub count-stays : {R : Type 0} (expected : ℕ) (items : List (Item R)) → goes_first expected (slice_get items 0) (second_time items) ≡ false → dropped_count expected (map plain_item items) ≡ 0
count-stays expected [] unmet = refl
count-stays expected (x ∷ []) unmet = refl
count-stays expected (x ∷ y ∷ rest) unmet = rw unmet refl

-- an item whose time has come is due
due_now : (expected : ℕ) (item : PlainItem) → nat_le (time_of item) expected ≡ true → is_due expected item ≡ true
due_now expected item come = grind (arith, nat_tests, come)

second_come : (a b c d : Bool) → (a && (b && (c && d))) ≡ true → c ≡ true
second_come true true true d met = refl
second_come true true false d met = met
second_come true false c d met = cc (met)
second_come false b c d met = cc (met)

-- behind an item whose time has come, the one that is left is due
due_behind : (expected : ℕ) (front : PlainItem) (rest : List PlainItem) → nat_le (time_of front) expected ≡ true → is_due_if_there expected (slice_get (front ∷ rest) (dropped_with expected front rest)) ≡ true
due_behind expected front [] come = due_now expected front come
due_behind expected front (second ∷ more) come = elim (cases_Bool (is_some front.time && has_just_come expected second)) [
  | inl met ↦
      let came : nat_le (time_of second) expected ≡ true = second_come (is_some front.time) (not (expected == 0)) (nat_le (time_of second) expected) _ met in
      rw (met, add-one) (due_behind expected second more came)
  | inr unmet ↦ rw unmet (due_now expected front come)
]

-- an item that is acquired is due exactly where one goes before it, or the first one is due
pub due_is : {R : Type 0} (expected : ℕ) (items : List (Item R)) → (goes_first expected (slice_get items 0) (second_time items) || is_front_due expected (slice_get items 0)) ≡ is_due_if_there expected (slice_get (map plain_item items) (dropped_count expected (map plain_item items)))
due_is expected [] = refl
due_is expected (x ∷ []) = refl
due_is expected (x ∷ y ∷ rest) = elim (cases_Bool (is_some x.time && has_just_come expected (plain_item y))) [
  | inl met ↦
      let came : nat_le (time_of (plain_item y)) expected ≡ true = second_come (is_some x.time) (not (expected == 0)) (nat_le (time_of (plain_item y)) expected) _ met in
      rw (met, add-one) (sym (due_behind expected (plain_item y) (map plain_item rest) came))
  | inr unmet ↦ rw unmet refl
]
