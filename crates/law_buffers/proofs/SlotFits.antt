-- What is known last of each slot fits its state and its buffer, where new buffers come into slots in which no frame waits, and each
-- frame is queued from a slot that has its buffer.
use Rattle.std.proofs.Common.{◌≡◌, ℕ, Bool, true, false, not, ◌==◌, List, [], ◌∷◌, ◌++◌, Option, Some, filter_map, refl, sym, subst, ◌∙◌, inl, inr, arith, slice_get}
use Rattle.std.proofs.lemmas.Bool.{cases_Bool}
use Rattle.std.proofs.lemmas.Bool.Decides.{nat_tests}
use Rattle.std.specs.Prelude.{◌⊎◌, if◌then◌else◌}
use Rattle.std.specs.List.{AllByRecursion}
use Rattle.sf_slots.specs.declared.item.PlainItem.{PlainItem}
use Rattle.sf_slots.specs.declared.slot.Held.{Held}
use Rattle.sf_slots.specs.declared.slot.SlotState.{SlotState}
use Rattle.sf_slots.specs.declared.slot.SlotState.TheVariants.{Free, Queued}
use Rattle.sf_slots.specs.Events.{Event, Make, Lend, Hand, Take, Back, Gone, Mark, Unmark, Last, Returned, Waiting, Elsewhere, slot_of, apart_from, last_of_each, state_after, buffer_after, returned_slot, waiting_item, freed_after, items_after}

-- what is known last of a slot fits its state and its buffer
abbrev pub Fits : Last → SlotState → Option Held → Type 0
Fits (Returned s) state held = state ≡ Free
Fits (Waiting item) state held = (state ≡ Queued) × (held ≡ Some item.held)
Fits (Elsewhere s) state held = Unit {0}

abbrev pub FitsAt : (ℕ → SlotState) → (ℕ → Option Held) → Last → Type 0
FitsAt state held last = Fits last (state (slot_of last)) (held (slot_of last))

-- an event that may happen after others
abbrev pub IsFit : Event → List Event → Type 0
IsFit (Make t width height maker) earlier = state_after earlier t ≡ Queued → ⊥
IsFit (Hand item) earlier = buffer_after earlier item.slot.0 ≡ Some item.held
IsFit (Lend t) earlier = Unit {0}
IsFit (Take t) earlier = Unit {0}
IsFit (Back t fence) earlier = Unit {0}
IsFit (Gone t) earlier = Unit {0}
IsFit (Mark t) earlier = Unit {0}
IsFit Unmark earlier = Unit {0}

abbrev pub AreFit : List Event → Type 0
AreFit [] = Unit {0}
AreFit (event ∷ earlier) = IsFit event earlier × AreFit earlier

abbrev pub AllFit : List Event → Type 0
AllFit events = AllByRecursion (FitsAt (state_after events) (buffer_after events)) (last_of_each events)

pub same_number : (n : ℕ) → (n == n) ≡ true
same_number n = grind (arith, nat_tests)

-- one more in front, unless it is of this slot
more : (P : Last → Type 0) (t : ℕ) (x last : Last) (lasts : List Last) (b : Bool) → (slot_of x == t) ≡ b → ((t == slot_of x) ≡ false → P x)
    → AllByRecursion P (apart_from t lasts ++ last ∷ []) → AllByRecursion P ((if not b then x ∷ apart_from t lasts else apart_from t lasts) ++ last ∷ [])
more P t x last lasts true e fits rest = rest
more P t x last lasts false e fits rest = (fits (grind (arith, nat_tests, e)), rest)

-- one slot changed, of which something else is known last
after : (t : ℕ) (state now : ℕ → SlotState) (held has : ℕ → Option Held) → ((s : ℕ) → (t == s) ≡ false → now s ≡ state s) → ((s : ℕ) → (t == s) ≡ false → has s ≡ held s)
    → (lasts : List Last) (last : Last) → AllByRecursion (FitsAt state held) lasts → FitsAt now has last → AllByRecursion (FitsAt now has) (apart_from t lasts ++ last ∷ [])
after t state now held has same same-held [] last fit new = (new, tt)
after t state now held has same same-held (x ∷ lasts) last fit new =
    more (FitsAt now has) t x last lasts (slot_of x == t) refl
    (λ other. rw (same (slot_of x) other, same-held (slot_of x) other) fit.0)
    (after t state now held has same same-held lasts last fit.1 new)

-- a new buffer comes into a slot in which no frame waits
waiting_there : (t : ℕ) (state : ℕ → SlotState) (item : PlainItem) → (state t ≡ Queued → ⊥) → state item.slot.0 ≡ Queued → (t == item.slot.0) ≡ false
waiting_there t state item not_there queued = elim (cases_Bool (t == item.slot.0)) [
  | inl met ↦ absurd (not_there (subst (λ s. state s ≡ Queued) (sym (grind (arith, nat_tests, met))) queued))
  | inr unmet ↦ unmet
]

filled : (t : ℕ) (state : ℕ → SlotState) (held has : ℕ → Option Held) → ((s : ℕ) → (t == s) ≡ false → has s ≡ held s) → (state t ≡ Queued → ⊥)
    → (lasts : List Last) → AllByRecursion (FitsAt state held) lasts → AllByRecursion (FitsAt state has) lasts
filled t state held has same not_there [] fit = tt
filled t state held has same not_there (Returned s ∷ lasts) fit = (fit.0, filled t state held has same not_there lasts fit.1)
filled t state held has same not_there (Elsewhere s ∷ lasts) fit = (tt, filled t state held has same not_there lasts fit.1)
filled t state held has same not_there (Waiting item ∷ lasts) fit =
    ((fit.0.0, same item.slot.0 (waiting_there t state item not_there fit.0.0) ∙ fit.0.1), filled t state held has same not_there lasts fit.1)

pub all_fit : (es : List Event) → AreFit es → AllFit es
all_fit [] f = tt
all_fit (Lend t ∷ es) f = after t (state_after es) (state_after (Lend t ∷ es)) (buffer_after es) (buffer_after es) (λ s e. rw e refl) (λ s e. refl) (last_of_each es) (Elsewhere t) (all_fit es f.1) tt
all_fit (Take t ∷ es) f = after t (state_after es) (state_after (Take t ∷ es)) (buffer_after es) (buffer_after es) (λ s e. rw e refl) (λ s e. refl) (last_of_each es) (Elsewhere t) (all_fit es f.1) tt
all_fit (Back t fence ∷ es) f =
    after t (state_after es) (state_after (Back t fence ∷ es)) (buffer_after es) (buffer_after es) (λ s e. rw e refl) (λ s e. refl) (last_of_each es) (Returned t) (all_fit es f.1)
    (rw (same_number t) refl)
all_fit (Hand item ∷ es) f =
    after item.slot.0 (state_after es) (state_after (Hand item ∷ es)) (buffer_after es) (buffer_after es) (λ s e. rw e refl) (λ s e. refl) (last_of_each es) (Waiting item) (all_fit es f.1)
    (rw (same_number item.slot.0) refl, f.0)
all_fit (Gone t ∷ es) f =
    after t (state_after es) (state_after (Gone t ∷ es)) (buffer_after es) (buffer_after (Gone t ∷ es)) (λ s e. rw e refl) (λ s e. rw e refl) (last_of_each es) (Elsewhere t) (all_fit es f.1) tt
all_fit (Make t width height maker ∷ es) f =
    filled t (state_after es) (buffer_after es) (buffer_after (Make t width height maker ∷ es)) (λ s e. rw e refl) f.0 (last_of_each es) (all_fit es f.1)
all_fit (Mark t ∷ es) f = all_fit es f.1
all_fit (Unmark ∷ es) f = all_fit es f.1

-- the item is in a list
abbrev pub Among : PlainItem → List PlainItem → Type 0
Among item [] = ⊥
Among item (x ∷ items) = (x ≡ item) ⊎ Among item items

waiting_fits : (P : Last → Type 0) (lasts : List Last) (item : PlainItem) → AllByRecursion P lasts → Among item (filter_map waiting_item lasts) → P (Waiting item)
waiting_fits P [] item fit among = absurd among
waiting_fits P (Returned s ∷ lasts) item fit among = waiting_fits P lasts item fit.1 among
waiting_fits P (Elsewhere s ∷ lasts) item fit among = waiting_fits P lasts item fit.1 among
waiting_fits P (Waiting other ∷ lasts) item fit (inl e) = subst (λ (x : PlainItem). P (Waiting x)) e fit.0
waiting_fits P (Waiting other ∷ lasts) item fit (inr among) = waiting_fits P lasts item fit.1 among

-- an item that waits is in a queued slot that has its buffer
pub item_fits : (es : List Event) → AreFit es → (item : PlainItem) → Among item (items_after es) → Fits (Waiting item) (state_after es item.slot.0) (buffer_after es item.slot.0)
item_fits es f item among = waiting_fits (FitsAt (state_after es) (buffer_after es)) (last_of_each es) item (all_fit es f) among

returned_fits : (P : Last → Type 0) (lasts : List Last) (s : ℕ) → AllByRecursion P lasts → slice_get (filter_map returned_slot lasts) 0 ≡ Some s → P (Returned s)
returned_fits P [] s fit e = absurd (cc (e))
returned_fits P (Waiting item ∷ lasts) s fit e = returned_fits P lasts s fit.1 e
returned_fits P (Elsewhere t ∷ lasts) s fit e = returned_fits P lasts s fit.1 e
returned_fits P (Returned t ∷ lasts) s fit e = subst (λ (x : ℕ). P (Returned x)) (cc (e)) fit.0

-- the slot that was freed longest ago is free
pub freed_fits : (es : List Event) → AreFit es → (s : ℕ) → slice_get (freed_after es) 0 ≡ Some s → state_after es s ≡ Free
freed_fits es f s e = returned_fits (FitsAt (state_after es) (buffer_after es)) (last_of_each es) s (all_fit es f) e
