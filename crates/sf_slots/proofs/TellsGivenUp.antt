-- A queue that is disconnected or given up is what the events of its slots tell.
use Rattle.std.proofs.Common.{◌≡◌, ℕ, ◌+◌, ◌<◌, ◌≤◌, suc, zero, true, false, ◌==◌, List, [], ◌∷◌, ◌++◌, arith, ap, ◌∙◌, sym, refl, map, filter, inl, inr}
use Rattle.std.proofs.lemmas.Bool.{cases_Bool}
use Rattle.std.proofs.lemmas.Bool.Decides.{nat_tests}
use Rattle.std.specs.List.{range_with_len}
use Rattle.sf_slots.specs.declared.item.Item.{Item}
use Rattle.sf_slots.specs.declared.item.PlainItem.{PlainItem}
use Rattle.sf_slots.specs.Events.{Event, Gone, Unmark, Elsewhere, state_after, freed_after, items_after}
use Rattle.sf_slots.specs.History.{slot_after, all_slots, happening, is_back_or_lent}
use Rattle.sf_slots.specs.Queue.{Queue, IsSound, contains, without, slot_in, slot_number, plain_item, emptied, without_marks, given_up}
use Rattle.sf_slots.specs.Effects.{vacated, vacated_all}
use Rattle.sf_slots.proofs.Lists.{contains-without}
use Rattle.sf_slots.proofs.Places.{map_from}
use Rattle.sf_slots.proofs.Lasts.{other_items, freed-last, items-last, append_none}
use Rattle.sf_slots.proofs.Tells.{Tells, Tells-without_marks}
use Rattle.sf_slots.proofs.TellsGone.{frames-gone, buffers-gone, happening-append, cleared_where, Tells-cleared_where, Tells-along}

-- a slot that is not among those that lose their buffers, and one that is
gone_other : (xs : List ℕ) (es : List Event) (u : ℕ) → contains xs u ≡ false → slot_after (happening (map Gone xs) es) u ≡ slot_after es u
gone_other [] es u absent = refl
gone_other (x ∷ xs) es u absent =
    let apart : (x == u) ≡ false = grind (arith, nat_tests, absent) in
    let there : contains xs u ≡ false = grind (arith, nat_tests, absent) in
    gone_other xs (Gone x ∷ es) u there ∙ rw apart refl

gone_first : (es : List Event) (x u : ℕ) → (x == u) ≡ true → slot_after (Gone x ∷ es) u ≡ emptied (slot_after es u)
gone_first es x u here = rw here refl

emptied_again : (es : List Event) (x u : ℕ) → emptied (slot_after (Gone x ∷ es) u) ≡ emptied (slot_after es u)
emptied_again es x u = refl

gone_here : (xs : List ℕ) (es : List Event) (u : ℕ) → contains xs u ≡ true → slot_after (happening (map Gone xs) es) u ≡ emptied (slot_after es u)
gone_here [] es u member = absurd (cc (member))
gone_here (x ∷ xs) es u member = elim (cases_Bool (contains xs u)) [
  | inl met ↦ gone_here xs (Gone x ∷ es) u met ∙ emptied_again es x u
  | inr unmet ↦
      let here : (x == u) ≡ true = grind (arith, nat_tests, unmet, member) in
      gone_other xs (Gone x ∷ es) u unmet ∙ gone_first es x u here
]

contains_number : (a n u : ℕ) → a ≤ u → u < a + n → contains (range_with_len a n) u ≡ true
contains_number a zero u low high = absurd (omega arith)
contains_number a (suc n) u low high = elim (cases_Bool (u == a)) [
  | inl met ↦ rw met refl
  | inr unmet ↦ rw unmet (contains_number (a + 1) n u (let other : u ≡ a → ⊥ = (λ e. grind (arith, nat_tests, unmet, e)) in omega (arith, other)) (omega arith))
]

nothing_in : (ys : List ℕ) → ((t : ℕ) → contains ys t ≡ true → ⊥) → ys ≡ []
nothing_in [] none = refl
nothing_in (y ∷ ys) none = absurd (none y (grind (arith, nat_tests)))

member_left : (xs : List ℕ) (x t : ℕ) (whole : List ℕ) → ((u : ℕ) → contains whole u ≡ true → contains (x ∷ xs) u ≡ true) → contains (without x whole) t ≡ true → contains xs t ≡ true
member_left xs x t whole inside member =
    let both = contains-without whole x t in
    let kept : contains whole t ≡ true = grind (arith, nat_tests, both, member) in
    let other : (t == x) ≡ false = grind (arith, nat_tests, both, member) in
    let listed = inside t kept in
    grind (arith, nat_tests, other, listed)

-- where each listed slot loses its buffer, nothing is left of the list
gone_freed : (xs : List ℕ) (es : List Event) → ((t : ℕ) → contains (freed_after es) t ≡ true → contains xs t ≡ true) → freed_after (happening (map Gone xs) es) ≡ []
gone_freed [] es inside = nothing_in (freed_after es) (λ t member. cc (inside t member))
gone_freed (x ∷ xs) es inside =
    let fewer : freed_after (Gone x ∷ es) ≡ without x (freed_after es) = freed-last es x (Elsewhere x) ∙ append_none (without x (freed_after es)) in
    gone_freed xs (Gone x ∷ es) (λ t member. member_left xs x t (freed_after es) inside (ap (λ ys. contains ys t) (sym fewer) ∙ member))

numbers-others : (x : ℕ) (items : List PlainItem) → map (λ (item : PlainItem). item.slot.0) (other_items x items) ≡ without x (map (λ (item : PlainItem). item.slot.0) items)
numbers-others x [] = refl
numbers-others x (item ∷ items) = let e = numbers-others x items in elim (cases_Bool (item.slot.0 == x)) [ inl met ↦ rw met e | inr unmet ↦ rw unmet (ap (λ ys. item.slot.0 ∷ ys) e) ]

no_items : (items : List PlainItem) → map (λ (item : PlainItem). item.slot.0) items ≡ [] → items ≡ []
no_items [] none = refl
no_items (item ∷ items) none = absurd (cc (none))

gone_items : (xs : List ℕ) (es : List Event) → ((t : ℕ) → contains (map (λ (item : PlainItem). item.slot.0) (items_after es)) t ≡ true → contains xs t ≡ true) → items_after (happening (map Gone xs) es) ≡ []
gone_items [] es inside = no_items (items_after es) (nothing_in (map (λ (item : PlainItem). item.slot.0) (items_after es)) (λ t member. cc (inside t member)))
gone_items (x ∷ xs) es inside =
    let numbers : PlainItem → ℕ = λ item. item.slot.0 in
    let fewer : map numbers (items_after (Gone x ∷ es)) ≡ without x (map numbers (items_after es)) = ap (map numbers) (items-last es x (Elsewhere x) ∙ append_none (other_items x (items_after es))) ∙ numbers-others x (items_after es) in
    gone_items xs (Gone x ∷ es) (λ t member. member_left xs x t (map numbers (items_after es)) inside (ap (λ ys. contains ys t) (sym fewer) ∙ member))

numbers-plain : {R : Type 0} (items : List (Item R)) → map (λ (item : PlainItem). item.slot.0) (map plain_item items) ≡ map slot_number items
numbers-plain [] = refl
numbers-plain (item ∷ items) = ap (λ xs. item.slot.0 ∷ xs) (numbers-plain items)

-- every slot loses its buffer
all_gone : {R : Type 0} (q : Queue R) (es : List Event) (n : ℕ) → n ≡ 64 → IsSound q → Tells q es → q.slots ≡ map (slot_after es) (range_with_len 0 n) → Tells (given_up q) (happening (map Gone (range_with_len 0 n)) es)
all_gone {R} q es n all sound tells told =
    let numbers : PlainItem → ℕ = λ item. item.slot.0 in
    let es_after : List Event = happening (map Gone (range_with_len 0 n)) es in
    let listed : map slot_number q.items ≡ map numbers (items_after es) = sym (numbers-plain q.items) ∙ ap (map numbers) tells.items in
    let same : map (slot_after es_after) (range_with_len 0 n) ≡ map (slot_after es_after) all_slots = ap (λ m. map (slot_after es_after) (range_with_len 0 m)) all in
    record {
      slots = ap (map emptied) told ∙ map_from (slot_after es) (slot_after es_after) emptied 0 n (λ u low high. gone_here (range_with_len 0 n) es u (contains_number 0 n u low high)) ∙ same;
      freed = sym (gone_freed (range_with_len 0 n) es (λ t member. contains_number 0 n t (omega arith) (let below = sound.freed.below t (ap (λ ys. contains ys t) tells.freed ∙ member) in omega (arith, below, sound.sized))));
      items = sym (gone_items (range_with_len 0 n) es (λ t member. contains_number 0 n t (omega arith) (let below = sound.items.below t (ap (λ ys. contains ys t) listed ∙ member) in omega (arith, below, sound.sized))));
      frames = tells.frames ∙ sym (frames-gone (range_with_len 0 n) es);
      buffers = tells.buffers ∙ sym (buffers-gone (range_with_len 0 n) es);
    }

pub Tells-given_up : {R : Type 0} (q : Queue R) (es : List Event) → IsSound q → Tells q es → Tells (given_up q) (happening (map Gone all_slots) es)
Tells-given_up q es sound tells = all_gone q es 64 refl sound tells tells.slots

vacated_is : {R : Type 0} (q : Queue R) (xs : List ℕ) → vacated_all q xs ≡ cleared_where is_back_or_lent q xs
vacated_is q [] = refl
vacated_is q (x ∷ xs) = vacated_is (vacated q x) xs

settings-vacate : {R : Type 0} (q : Queue R) (s : ℕ) → (vacated q s).settings ≡ q.settings
settings-vacate q s = elim (cases_Bool (is_back_or_lent (slot_in q s).state)) [ inl met ↦ rw met refl | inr unmet ↦ rw unmet refl ]

pub settings-vacated : {R : Type 0} (q : Queue R) (xs : List ℕ) → (vacated_all q xs).settings ≡ q.settings
settings-vacated q [] = refl
settings-vacated q (x ∷ xs) = settings-vacated (vacated q x) xs ∙ settings-vacate q x

-- every free or lent slot loses its buffer, and no buffer counts as requested
pub Tells-vacant : {R : Type 0} (q : Queue R) (es : List Event) (n : ℕ) → n ≤ 64 → IsSound q → Tells q es → Tells (without_marks (vacated_all q (range_with_len 0 n))) (happening (map Gone (filter (λ s. is_back_or_lent (state_after es s)) (range_with_len 0 n)) ++ Unmark ∷ []) es)
Tells-vacant {R} q es n within sound tells =
    let gone : List Event = map Gone (filter (λ s. is_back_or_lent (state_after es s)) (range_with_len 0 n)) in
    let vacant : Tells (vacated_all q (range_with_len 0 n)) (happening gone es) =
    Tells-along _ _ (vacated_is q (range_with_len 0 n)) refl (Tells-cleared_where is_back_or_lent refl refl 0 n (λ u low high. omega arith) q es sound tells) in
    Tells-along _ _ refl (happening-append gone (Unmark ∷ []) es) (Tells-without_marks (happening gone es) vacant)
