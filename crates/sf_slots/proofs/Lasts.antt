-- What an event makes of the freed list and of the items.
use Rattle.std.proofs.Common.{◌≡◌, ℕ, false, not, ◌==◌, List, [], ◌∷◌, ◌++◌, arith, ap, ◌∙◌, refl, map, filter, filter_map, inl, inr}
use Rattle.std.proofs.lemmas.Bool.{cases_Bool}
use Rattle.std.proofs.lemmas.Bool.Decides.{nat_tests}
use Rattle.std.proofs.lemmas.List.Elements.{filter_map-append}
use Rattle.sf_slots.specs.declared.item.Item.{Item}
use Rattle.sf_slots.specs.declared.item.PlainItem.{PlainItem}
use Rattle.sf_slots.specs.Events.{Event, Last, Returned, Waiting, Elsewhere, apart_from, last_of_each, returned_slot, waiting_item, freed_after, items_after}
use Rattle.sf_slots.specs.Queue.{contains, without, plain_item, slot_number}

-- the items of other slots
abbrev pub other_items : ℕ → List PlainItem → List PlainItem
other_items s items = filter (λ item. not (item.slot.0 == s)) items

returned-apart : (s : ℕ) (lasts : List Last) → filter_map returned_slot (apart_from s lasts) ≡ without s (filter_map returned_slot lasts)
returned-apart s [] = refl
returned-apart s (Returned t ∷ lasts) = let e = returned-apart s lasts in elim (cases_Bool (t == s)) [ inl met ↦ rw met e | inr unmet ↦ rw unmet (ap (λ xs. t ∷ xs) e) ]
returned-apart s (Waiting item ∷ lasts) = let e = returned-apart s lasts in elim (cases_Bool (item.slot.0 == s)) [ inl met ↦ rw met e | inr unmet ↦ rw unmet e ]
returned-apart s (Elsewhere t ∷ lasts) = let e = returned-apart s lasts in elim (cases_Bool (t == s)) [ inl met ↦ rw met e | inr unmet ↦ rw unmet e ]

waiting-apart : (s : ℕ) (lasts : List Last) → filter_map waiting_item (apart_from s lasts) ≡ other_items s (filter_map waiting_item lasts)
waiting-apart s [] = refl
waiting-apart s (Returned t ∷ lasts) = let e = waiting-apart s lasts in elim (cases_Bool (t == s)) [ inl met ↦ rw met e | inr unmet ↦ rw unmet e ]
waiting-apart s (Waiting item ∷ lasts) = let e = waiting-apart s lasts in elim (cases_Bool (item.slot.0 == s)) [ inl met ↦ rw met e | inr unmet ↦ rw unmet (ap (λ xs. item ∷ xs) e) ]
waiting-apart s (Elsewhere t ∷ lasts) = let e = waiting-apart s lasts in elim (cases_Bool (t == s)) [ inl met ↦ rw met e | inr unmet ↦ rw unmet e ]

-- the freed list and the items after what is known last of a slot
pub freed-last : (es : List Event) (s : ℕ) (last : Last) → filter_map returned_slot (apart_from s (last_of_each es) ++ last ∷ []) ≡ without s (freed_after es) ++ filter_map returned_slot (last ∷ [])
freed-last es s last = filter_map-append returned_slot (apart_from s (last_of_each es)) (last ∷ []) ∙ ap (λ xs. xs ++ filter_map returned_slot (last ∷ [])) (returned-apart s (last_of_each es))

pub items-last : (es : List Event) (s : ℕ) (last : Last) → filter_map waiting_item (apart_from s (last_of_each es) ++ last ∷ []) ≡ other_items s (items_after es) ++ filter_map waiting_item (last ∷ [])
items-last es s last = filter_map-append waiting_item (apart_from s (last_of_each es)) (last ∷ []) ∙ ap (λ xs. xs ++ filter_map waiting_item (last ∷ [])) (waiting-apart s (last_of_each es))

pub append_none : {A : Type 0} (xs : List A) → xs ++ [] ≡ xs
append_none [] = refl
append_none (x ∷ xs) = ap (λ ys. x ∷ ys) (append_none xs)

-- a slot that is not in a list leaves it as it is
pub without_absent : (xs : List ℕ) (s : ℕ) → contains xs s ≡ false → without s xs ≡ xs
without_absent [] s absent = refl
without_absent (x ∷ xs) s absent =
    let other : (x == s) ≡ false = grind (arith, nat_tests, absent) in
    let there : contains xs s ≡ false = grind (arith, nat_tests, absent) in
    rw other (ap (λ ys. x ∷ ys) (without_absent xs s there))

pub others_absent : {R : Type 0} (items : List (Item R)) (s : ℕ) → contains (map slot_number items) s ≡ false → other_items s (map plain_item items) ≡ map plain_item items
others_absent [] s absent = refl
others_absent {R} (x ∷ xs) s absent =
    let other : (x.slot.0 == s) ≡ false = grind (arith, nat_tests, absent) in
    let there : contains (map slot_number xs) s ≡ false = grind (arith, nat_tests, absent) in
    rw other (ap (λ ys. plain_item x ∷ ys) (others_absent xs s there))
