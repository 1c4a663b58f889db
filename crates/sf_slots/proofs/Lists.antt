-- Lists of slots without repetition, and the states of their slots.
use Rattle.std.proofs.Common.{◌≡◌, ℕ, ◌+◌, ◌<◌, ◌≤◌, suc, true, false, not, ◌==◌, ◌||◌, ◌&&◌, List, [], ◌∷◌, ◌++◌, length, get_or, set, eqb, arith, ap, ◌∙◌, sym, refl, take, drop, drop-cons, add-one, append_assoc, zero, length-append, inl, inr, map}
use Rattle.std.proofs.lemmas.Bool.{cases_Bool}
use Rattle.std.proofs.lemmas.Bool.Decides.{nat_tests}
use Rattle.std.proofs.lemmas.List.{get_or-set_same, get_or-set_other, length-set}
use Rattle.std.proofs.lemmas.Map.Steps.{length-le_from_distinct_below}
use Rattle.std.specs.List.{IsDistinct, AllByRecursion}
use Rattle.sf_slots.specs.declared.slot.Slot.{Slot}
use Rattle.sf_slots.specs.declared.slot.SlotState.{SlotState}
use Rattle.sf_slots.specs.Told.{unused, same_state}
use Rattle.sf_slots.specs.declared.slot.SlotState.TheVariants.{Free, Dequeued, Queued, Acquired}
use Rattle.sf_slots.specs.Queue.{contains, without, rotated, IsApart, ListsSlots}
use Rattle.std.proofs.lemmas.List.{take_more}
use Rattle.std.proofs.lemmas.List.Elements.{filter-append}
use Rattle.std.proofs.Math.Seq.{take-length, drop-length}

pub contains-append : (xs ys : List ℕ) (s : ℕ) → contains (xs ++ ys) s ≡ (contains xs s || contains ys s)
contains-append [] ys s = refl
contains-append (x ∷ xs) ys s = let e = contains-append xs ys s in elim (cases_Bool (s == x)) [ inl met ↦ rw met refl | inr unmet ↦ rw unmet e ]

pub contains-without : (xs : List ℕ) (t s : ℕ) → contains (without t xs) s ≡ (contains xs s && not (s == t))
contains-without [] t s = refl
contains-without (x ∷ xs) t s = let e = contains-without xs t s in
    elim (cases_Bool (x == t)) [
      | inl met ↦ grind (arith, nat_tests, met, e)
      | inr unmet ↦ grind (arith, nat_tests, unmet, e)
    ]

pub IsApart-without : (xs : List ℕ) (t : ℕ) → IsApart xs → IsApart (without t xs)
IsApart-without [] t apart = tt
IsApart-without (x ∷ xs) t apart = elim (cases_Bool (x == t)) [
  | inl met ↦ rw met (IsApart-without xs t apart.1)
  | inr unmet ↦ rw unmet (rw (contains-without xs t x, apart.0) refl, IsApart-without xs t apart.1)
]

pub IsApart-push : (xs : List ℕ) (s : ℕ) → contains xs s ≡ false → IsApart xs → IsApart (xs ++ s ∷ [])
IsApart-push [] s absent apart = (refl, tt)
IsApart-push (x ∷ xs) s absent apart =
    let e = contains-append xs (s ∷ []) x in
    let here : contains (xs ++ s ∷ []) x ≡ false = grind (arith, nat_tests, absent, apart.0, e) in
    let there : contains xs s ≡ false = grind (arith, nat_tests, absent) in
    (here, IsApart-push xs s there apart.1)

all_differ : (x : ℕ) (xs : List ℕ) → contains xs x ≡ false → AllByRecursion (λ y. eqb x y ≡ false) xs
all_differ x [] absent = tt
all_differ x (y ∷ ys) absent =
    let here : eqb x y ≡ false = grind (arith, nat_tests, absent) in
    let there : contains ys x ≡ false = grind (arith, nat_tests, absent) in
    (here, all_differ x ys there)

pub distinct_from_apart : (xs : List ℕ) → IsApart xs → IsDistinct eqb xs
unfolding IsDistinct
distinct_from_apart [] apart = tt
distinct_from_apart (x ∷ xs) apart = (all_differ x xs apart.0, distinct_from_apart xs apart.1)

-- there is room for one slot more
pub has_room : {slots : List Slot} {state : SlotState} {xs : List ℕ} → ListsSlots slots state xs → (s : ℕ) → s < length slots → contains xs s ≡ false → length xs < length slots
has_room {slots} {state} {xs} lists s low absent =
    let bound : length (s ∷ xs) ≤ length slots = length-le_from_distinct_below (s ∷ xs) (length slots) (distinct_from_apart (s ∷ xs) (absent, lists.apart))
    (λ q member. elim (cases_Bool (q == s)) [ inl met ↦ grind (arith, nat_tests, met) | inr unmet ↦ lists.below q (grind (arith, nat_tests, unmet, member)) ]) in
    omega (arith, bound)

-- a slot in another state is not in the list
pub absent_from : {slots : List Slot} {state : SlotState} {xs : List ℕ} → ListsSlots slots state xs → (s : ℕ) → ((get_or slots s unused).state ≡ state → ⊥) → contains xs s ≡ false
absent_from {slots} {state} {xs} lists s other = elim (cases_Bool (contains xs s)) [ inl met ↦ absurd (other (lists.stated s met)) | inr unmet ↦ unmet ]

-- a slot that is not in the list changes
pub ListsSlots-set : {slots : List Slot} {state : SlotState} {xs : List ℕ} → ListsSlots slots state xs → (s : ℕ) (slot : Slot) → contains xs s ≡ false → ListsSlots (set slots s slot) state xs
ListsSlots-set {slots} {state} {xs} lists s slot absent = record {
  apart = lists.apart;
  below = λ t member. rw length-set (lists.below t member);
  stated = λ t member. elim (cases_Bool (t == s)) [
    | inl met ↦ let same : t ≡ s = grind (arith, nat_tests, met) in absurd (grind (arith, same, member, absent))
    | inr unmet ↦ let other : ((t ≡ s) → ⊥) = (λ e. grind (arith, nat_tests, unmet, e)) in rw (get_or-set_other slots s t slot unused other) (lists.stated t member)
  ];
}

-- a slot leaves the list and changes
pub ListsSlots-without : {slots : List Slot} {state : SlotState} {xs : List ℕ} → ListsSlots slots state xs → (s : ℕ) (slot : Slot) → ListsSlots (set slots s slot) state (without s xs)
ListsSlots-without {slots} {state} {xs} lists s slot =
    let fewer : ListsSlots slots state (without s xs) = record {
      apart = IsApart-without xs s lists.apart;
      below = λ t member. lists.below t (grind (arith, contains-without xs s t, member));
      stated = λ t member. lists.stated t (grind (arith, contains-without xs s t, member));
    } in
    ListsSlots-set fewer s slot (grind (arith, nat_tests, contains-without xs s s))

-- a slot changes to the state of the list and joins it
pub ListsSlots-push : {slots : List Slot} {state : SlotState} {xs : List ℕ} → ListsSlots slots state xs → (s : ℕ) (slot : Slot) → s < length slots → contains xs s ≡ false → slot.state ≡ state → ListsSlots (set slots s slot) state (xs ++ s ∷ [])
ListsSlots-push {slots} {state} {xs} lists s slot low absent right =
    let kept = ListsSlots-set lists s slot absent in
    record {
      apart = IsApart-push xs s absent lists.apart;
      below = λ t member. elim (cases_Bool (t == s)) [
        | inl met ↦ let same : t ≡ s = grind (arith, nat_tests, met) in rw (same, length-set) low
        | inr unmet ↦ kept.below t (grind (arith, nat_tests, unmet, contains-append xs (s ∷ []) t, member))
      ];
      stated = λ t member. elim (cases_Bool (t == s)) [
        | inl met ↦ let same : t ≡ s = grind (arith, nat_tests, met) in rw (same, get_or-set_same slots s slot unused low) right
        | inr unmet ↦ kept.stated t (grind (arith, nat_tests, unmet, contains-append xs (s ∷ []) t, member))
      ];
    }

-- a slot changes and keeps its state
pub ListsSlots-restate : {slots : List Slot} {state : SlotState} {xs : List ℕ} → ListsSlots slots state xs → (s : ℕ) (slot : Slot) → s < length slots → slot.state ≡ (get_or slots s unused).state → ListsSlots (set slots s slot) state xs
ListsSlots-restate {slots} {state} {xs} lists s slot low same = record {
  apart = lists.apart;
  below = λ t member. rw length-set (lists.below t member);
  stated = λ t member. elim (cases_Bool (t == s)) [
    | inl met ↦ let here : t ≡ s = grind (arith, nat_tests, met) in rw (here, get_or-set_same slots s slot unused low) (same ∙ ap (λ u. (get_or slots u unused).state) (sym here) ∙ lists.stated t member)
    | inr unmet ↦ let other : ((t ≡ s) → ⊥) = (λ e. grind (arith, nat_tests, unmet, e)) in rw (get_or-set_other slots s t slot unused other) (lists.stated t member)
  ];
}

-- the first slot leaves the list
pub ListsSlots-tail : {slots : List Slot} {state : SlotState} {xs : List ℕ} (x : ℕ) → ListsSlots slots state (x ∷ xs) → ListsSlots slots state xs
ListsSlots-tail {slots} {state} {xs} x lists = record {
  apart = lists.apart.1;
  below = λ t member. lists.below t (grind (arith, nat_tests, member));
  stated = λ t member. lists.stated t (grind (arith, nat_tests, member));
}

-- the last slot leaves the list, and is not among the others
pub IsApart-init : (xs : List ℕ) (x : ℕ) → IsApart (xs ++ x ∷ []) → IsApart xs
IsApart-init [] x apart = tt
IsApart-init (y ∷ ys) x apart = (grind (arith, nat_tests, contains-append ys (x ∷ []) y, apart.0), IsApart-init ys x apart.1)

pub absent_before : (xs : List ℕ) (x : ℕ) → IsApart (xs ++ x ∷ []) → contains xs x ≡ false
absent_before [] x apart = refl
absent_before (y ∷ ys) x apart =
    let rest = absent_before ys x apart.1 in
    grind (arith, nat_tests, contains-append ys (x ∷ []) y, apart.0, rest)

pub ListsSlots-init : {slots : List Slot} {state : SlotState} {xs : List ℕ} (x : ℕ) → ListsSlots slots state (xs ++ x ∷ []) → ListsSlots slots state xs
ListsSlots-init {slots} {state} {xs} x lists = record {
  apart = IsApart-init xs x lists.apart;
  below = λ t member. lists.below t (grind (arith, nat_tests, contains-append xs (x ∷ []) t, member));
  stated = λ t member. lists.stated t (grind (arith, nat_tests, contains-append xs (x ∷ []) t, member));
}

-- a list whose first i numbers were rotated
pub rotated-step : (xs : List ℕ) (s i : ℕ) → i < length xs → rotated s (drop i xs ++ without s (take i xs)) ≡ drop (i + 1) xs ++ without s (take (i + 1) xs)
rotated-step xs s i more =
    let front : drop i xs ≡ get_or xs i 0 ∷ drop (i + 1) xs = rw add-one (drop-cons xs i 0 more) in
    let taken : without s (take (i + 1) xs) ≡ without s (take i xs) ++ without s (get_or xs i 0 ∷ []) = rw (take_more xs i 0 more) (filter-append (λ t. not (t == s)) (take i xs) (get_or xs i 0 ∷ [])) in
    rw (front, taken) (append_assoc (drop (i + 1) xs) (without s (take i xs)) (without s (get_or xs i 0 ∷ [])))

pub rotated-all : (xs : List ℕ) (s i : ℕ) → i ≡ length xs → drop i xs ++ without s (take i xs) ≡ without s xs
rotated-all xs s i end = rw (end, drop-length, take-length) refl

pub length-rotated : (xs : List ℕ) (s : ℕ) → length (rotated s xs) ≤ length xs
length-rotated [] s = omega arith
length-rotated (x ∷ xs) s = elim (cases_Bool (x == s)) [
  | inl met ↦ rw met (simp length-append (omega arith))
  | inr unmet ↦ rw unmet (simp length-append (omega arith))
]

-- a list without members
pub ListsSlots-none : (slots : List Slot) (state : SlotState) → ListsSlots slots state []
ListsSlots-none slots state = record { apart = tt; below = λ s member. cc (member); stated = λ s member. cc (member) }

pub length-mapped : {A B : Type 0} (f : A → B) (xs : List A) → length (map f xs) ≡ length xs
length-mapped f [] = refl
length-mapped f (x ∷ xs) = ap (λ n. suc n) (length-mapped f xs)

state_of-map : (f : Slot → Slot) → ((slot : Slot) → (f slot).state ≡ slot.state) → (slots : List Slot) (s : ℕ) → s < length slots → (get_or (map f slots) s unused).state ≡ (get_or slots s unused).state
state_of-map f same [] s low = absurd (omega (arith, low))
state_of-map f same (slot ∷ slots) zero low = same slot
state_of-map f same (slot ∷ slots) (suc s) low = state_of-map f same slots s (omega (arith, low))

-- slots that change and keep their states
pub ListsSlots-map : {slots : List Slot} {state : SlotState} {xs : List ℕ} (f : Slot → Slot) → ((slot : Slot) → (f slot).state ≡ slot.state) → ListsSlots slots state xs → ListsSlots (map f slots) state xs
ListsSlots-map {slots} {state} {xs} f same lists = record {
  apart = lists.apart;
  below = λ s member. rw (length-mapped f slots) (lists.below s member);
  stated = λ s member. state_of-map f same slots s (lists.below s member) ∙ lists.stated s member;
}

-- a list of which the first i elements were changed, at its end
pub mapped_all : {A : Type 0} (f : A → A) (xs : List A) (i : ℕ) → length xs ≤ i → map f (take i xs) ++ drop i xs ≡ map f xs
mapped_all f [] zero end = refl
mapped_all f [] (suc i) end = refl
mapped_all f (x ∷ xs) zero end = absurd (omega (arith, end))
mapped_all f (x ∷ xs) (suc i) end = ap (λ ys. f x ∷ ys) (mapped_all f xs i (omega (arith, end)))

-- the test for a free slot tells its state
pub free_state : (state : SlotState) → same_state state Free ≡ true → state ≡ Free
free_state Free met = refl
free_state Dequeued met = cc (met)
free_state Queued met = cc (met)
free_state Acquired met = cc (met)

pub read-map : (f : Slot → Slot) (slots : List Slot) (s : ℕ) → s < length slots → get_or (map f slots) s unused ≡ f (get_or slots s unused)
read-map f [] s low = absurd (omega (arith, low))
read-map f (slot ∷ slots) zero low = refl
read-map f (slot ∷ slots) (suc s) low = read-map f slots s (omega (arith, low))

-- an element that is there does not depend on the default
pub get_or-own : {A : Type 0} (xs : List A) (i : ℕ) (d : A) → i < length xs → get_or xs i d ≡ get_or xs i (get_or xs i d)
get_or-own [] i d low = refl
get_or-own (x ∷ xs) zero d low = refl
get_or-own (x ∷ xs) (suc i) d low = get_or-own xs i d (omega (arith, low))
