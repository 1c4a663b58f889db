-- In which slots a right lies, by the events of a queue's slots.
use Rattle.std.proofs.Common.{◌≡◌, ℕ, ◌⊎◌, Bool, true, false, ◌==◌, not, List, [], ◌∷◌, arith, ◌∙◌, sym, refl, map, inl, inr, subst, Option, None}
use Rattle.std.specs.Prelude.{filter_map}
use Rattle.std.specs.List.{All}
use Rattle.std.proofs.lemmas.Bool.{cases_Bool, eqb-true, eq-eqb, false≢true}
use Rattle.std.proofs.lemmas.List.Elements.{All-cons, All-head, All-nil, All-push, All-tail, All-weaker}
use Rattle.sf_base.specs.Fences.{Fence}
use Rattle.sf_slots.specs.declared.item.PlainItem.{PlainItem}
use Rattle.sf_slots.specs.declared.slot.Slot.{Slot}
use Rattle.sf_slots.specs.declared.slot.SlotState.TheVariants.{Free, Queued}
use Rattle.sf_slots.specs.Events.{Event, Make, Lend, Hand, Take, Back, Gone, Mark, Unmark, Maker, Last, Returned, Waiting, Elsewhere, apart_from, freed_after, items_after, last_of_each, returned_slot, slot_of, state_after, waiting_item}
use Rattle.sf_slots.specs.History.{happening, kept_back, slot_after}
use Rattle.law_rights.specs.Slots.{is_home, is_home_after}

-- a right lies only in slots where one lay
pub record StayHome (old new : List Event) : Type 0 where
  pub stays : (s : ℕ) → is_home_after new s ≡ true → is_home_after old s ≡ true

-- or in this slot
pub record ComeHome (old new : List Event) (slot : ℕ) : Type 0 where
  pub stays : (s : ℕ) → is_home_after new s ≡ true → (s ≡ slot) ⊎ (is_home_after old s ≡ true)

pub nothing_happens : (es : List Event) → StayHome es es
nothing_happens es = record { stays = λ s home. home }

pub then_stays : (old new last : List Event) → StayHome old new → StayHome new last → StayHome old last
then_stays old new last first second = record { stays = λ s home. first.stays s (second.stays s home) }

not_home : (b : Bool) → b ≡ false → b ≡ true → {P : Type 0} → P
not_home b none home = absurd (false≢true (sym none ∙ home))

pub home_gone : (t : ℕ) (es : List Event) → StayHome es (Gone t ∷ es)
home_gone t es = record { stays = λ s home. by_slot s home (cases_Bool (t == s)) }
  where
    by_slot : (s : ℕ) → is_home_after (Gone t ∷ es) s ≡ true → ((t == s) ≡ true) ⊎ ((t == s) ≡ false) → is_home_after es s ≡ true
    by_slot s home (inl met) = not_home (is_home_after (Gone t ∷ es) s) (rw met refl) home
    by_slot s home (inr unmet) = let same : is_home_after (Gone t ∷ es) s ≡ is_home_after es s = rw unmet refl in sym same ∙ home

pub home_lend : (t : ℕ) (es : List Event) → StayHome es (Lend t ∷ es)
home_lend t es = record { stays = λ s home. by_slot s home (cases_Bool (t == s)) }
  where
    by_slot : (s : ℕ) → is_home_after (Lend t ∷ es) s ≡ true → ((t == s) ≡ true) ⊎ ((t == s) ≡ false) → is_home_after es s ≡ true
    by_slot s home (inl met) = not_home (is_home_after (Lend t ∷ es) s) (rw met refl) home
    by_slot s home (inr unmet) = let same : is_home_after (Lend t ∷ es) s ≡ is_home_after es s = rw unmet refl in sym same ∙ home

pub home_take : (t : ℕ) (es : List Event) → StayHome es (Take t ∷ es)
home_take t es = record { stays = λ s home. by_slot s home (cases_Bool (t == s)) }
  where
    by_slot : (s : ℕ) → is_home_after (Take t ∷ es) s ≡ true → ((t == s) ≡ true) ⊎ ((t == s) ≡ false) → is_home_after es s ≡ true
    by_slot s home (inl met) = not_home (is_home_after (Take t ∷ es) s) (rw met refl) home
    by_slot s home (inr unmet) = let same : is_home_after (Take t ∷ es) s ≡ is_home_after es s = rw unmet refl in sym same ∙ home

pub home_mark : (t : ℕ) (es : List Event) → StayHome es (Mark t ∷ es)
home_mark t es = record { stays = λ s home. home }

pub home_unmark : (es : List Event) → StayHome es (Unmark ∷ es)
home_unmark es = record { stays = λ s home. home }

-- a new buffer comes into a slot that is given out
pub home_lend_new : (t width height : ℕ) (maker : Maker) (es : List Event) → StayHome es (Lend t ∷ Make t width height maker ∷ es)
home_lend_new t width height maker es = record { stays = λ s home. by_slot s home (cases_Bool (t == s)) }
  where
    by_slot : (s : ℕ) → is_home_after (Lend t ∷ Make t width height maker ∷ es) s ≡ true → ((t == s) ≡ true) ⊎ ((t == s) ≡ false) → is_home_after es s ≡ true
    by_slot s home (inl met) = not_home (is_home_after (Lend t ∷ Make t width height maker ∷ es) s) (rw met refl) home
    by_slot s home (inr unmet) = let same : is_home_after (Lend t ∷ Make t width height maker ∷ es) s ≡ is_home_after es s = rw unmet refl in sym same ∙ home

pub home_take_new : (t width height : ℕ) (maker : Maker) (es : List Event) → StayHome es (Take t ∷ Make t width height maker ∷ es)
home_take_new t width height maker es = record { stays = λ s home. by_slot s home (cases_Bool (t == s)) }
  where
    by_slot : (s : ℕ) → is_home_after (Take t ∷ Make t width height maker ∷ es) s ≡ true → ((t == s) ≡ true) ⊎ ((t == s) ≡ false) → is_home_after es s ≡ true
    by_slot s home (inl met) = not_home (is_home_after (Take t ∷ Make t width height maker ∷ es) s) (rw met refl) home
    by_slot s home (inr unmet) = let same : is_home_after (Take t ∷ Make t width height maker ∷ es) s ≡ is_home_after es s = rw unmet refl in sym same ∙ home

-- a slot comes back
pub home_back : (t : ℕ) (fence : Option Fence) (es : List Event) → ComeHome es (Back t fence ∷ es) t
home_back t fence es = record { stays = λ s home. by_slot s home (cases_Bool (t == s)) }
  where
    by_slot : (s : ℕ) → is_home_after (Back t fence ∷ es) s ≡ true → ((t == s) ≡ true) ⊎ ((t == s) ≡ false) → (s ≡ t) ⊎ (is_home_after es s ≡ true)
    by_slot s home (inl met) = inl (sym (eqb-true t s met))
    by_slot s home (inr unmet) = let same : is_home_after (Back t fence ∷ es) s ≡ is_home_after es s = rw unmet refl in inr (sym same ∙ home)

pub home_hand : (item : PlainItem) (es : List Event) → ComeHome es (Hand item ∷ es) item.slot.0
home_hand item es = record { stays = λ s home. by_slot s home (cases_Bool (item.slot.0 == s)) }
  where
    by_slot : (s : ℕ) → is_home_after (Hand item ∷ es) s ≡ true → ((item.slot.0 == s) ≡ true) ⊎ ((item.slot.0 == s) ≡ false) → (s ≡ item.slot.0) ⊎ (is_home_after es s ≡ true)
    by_slot s home (inl met) = inl (sym (eqb-true item.slot.0 s met))
    by_slot s home (inr unmet) = let same : is_home_after (Hand item ∷ es) s ≡ is_home_after es s = rw unmet refl in inr (sym same ∙ home)

-- slots lose their buffers
pub home_all_gone : (slots : List ℕ) (es : List Event) → StayHome es (happening (map Gone slots) es)
home_all_gone [] es = nothing_happens es
home_all_gone (t ∷ slots) es = then_stays es (Gone t ∷ es) (happening (map Gone slots) (Gone t ∷ es)) (home_gone t es) (home_all_gone slots (Gone t ∷ es))

-- where a frame is queued from a slot its right lies there
pub queued_home : (slot : Slot) → slot.state ≡ Queued → is_home slot ≡ true
queued_home slot is = rw is refl

-- slots in which rights lay come back
pub home_kept_back : (items : List PlainItem) (old es : List Event) → All (λ (item : PlainItem). state_after old item.slot.0 ≡ Queued) items → StayHome old es → StayHome old (happening (map kept_back items) es)
home_kept_back [] old es queued stay = stay
home_kept_back (item ∷ items) old es queued stay =
    home_kept_back items old (Back item.slot.0 None ∷ es) (All-tail (λ (item : PlainItem). state_after old item.slot.0 ≡ Queued) item items queued)
    (record { stays = λ s home. by_case s ((home_back item.slot.0 None es).stays s home) })
  where
    here : is_home_after old item.slot.0 ≡ true
    here = queued_home (slot_after old item.slot.0) (All-head (λ (item : PlainItem). state_after old item.slot.0 ≡ Queued) item items queued)

    by_case : (s : ℕ) → (s ≡ item.slot.0) ⊎ (is_home_after es s ≡ true) → is_home_after old s ≡ true
    by_case s (inl same) = subst (λ (t : ℕ). is_home_after old t ≡ true) (sym same) here
    by_case s (inr home) = stay.stays s home

-- what the last event of a slot says of its state
abbrev Says : List Event → Last → Type 0
Says es (Returned s) = state_after es s ≡ Free
Says es (Waiting item) = state_after es item.slot.0 ≡ Queued
Says es (Elsewhere s) = Unit {0}

-- a later event of another slot changes nothing that it says
record SaysStill (old new : List Event) (t : ℕ) : Type 0 where
  state : (s : ℕ) → (t == s) ≡ false → state_after new s ≡ state_after old s

apart_still : (old new : List Event) (t : ℕ) → SaysStill old new t → (last : Last) → Says old last → not (slot_of last == t) ≡ true → Says new last
apart_still old new t same (Returned s) says apart = same.state s (other s apart) ∙ says
  where
    other : (s : ℕ) → not (s == t) ≡ true → (t == s) ≡ false
    other s apart = grind (arith, apart)
apart_still old new t same (Waiting item) says apart = same.state item.slot.0 (other item.slot.0 apart) ∙ says
  where
    other : (s : ℕ) → not (s == t) ≡ true → (t == s) ≡ false
    other s apart = grind (arith, apart)
apart_still old new t same (Elsewhere s) says apart = tt

still_says : (old new : List Event) (t : ℕ) → SaysStill old new t → (lasts : List Last) → All (Says old) lasts → All (Says new) (apart_from t lasts)
still_says old new t same [] says = All-nil (Says new)
still_says old new t same (last ∷ lasts) says = by_test (cases_Bool (not (slot_of last == t))) (still_says old new t same lasts (All-tail (Says old) last lasts says))
  where
    by_test : (not (slot_of last == t) ≡ true) ⊎ (not (slot_of last == t) ≡ false) → All (Says new) (apart_from t lasts) → All (Says new) (apart_from t (last ∷ lasts))
    by_test (inl apart) rest = rw apart (All-cons (Says new) last (apart_from t lasts) (apart_still old new t same last (All-head (Says old) last lasts says) apart) rest)
    by_test (inr here) rest = rw here rest

all_say : (es : List Event) → All (Says es) (last_of_each es)
all_say [] = All-nil (Says [])
all_say (Lend t ∷ es) = All-push (Says (Lend t ∷ es)) (apart_from t (last_of_each es)) (Elsewhere t) (still_says es (Lend t ∷ es) t (record { state = λ s other. rw other refl }) (last_of_each es) (all_say es)) tt
all_say (Take t ∷ es) = All-push (Says (Take t ∷ es)) (apart_from t (last_of_each es)) (Elsewhere t) (still_says es (Take t ∷ es) t (record { state = λ s other. rw other refl }) (last_of_each es) (all_say es)) tt
all_say (Gone t ∷ es) = All-push (Says (Gone t ∷ es)) (apart_from t (last_of_each es)) (Elsewhere t) (still_says es (Gone t ∷ es) t (record { state = λ s other. rw other refl }) (last_of_each es) (all_say es)) tt
all_say (Back t fence ∷ es) =
    All-push (Says (Back t fence ∷ es)) (apart_from t (last_of_each es)) (Returned t)
    (still_says es (Back t fence ∷ es) t (record { state = λ s other. rw other refl }) (last_of_each es) (all_say es)) (rw (eq-eqb t t refl) refl)
all_say (Hand item ∷ es) =
    All-push (Says (Hand item ∷ es)) (apart_from item.slot.0 (last_of_each es)) (Waiting item)
    (still_says es (Hand item ∷ es) item.slot.0 (record { state = λ s other. rw other refl }) (last_of_each es) (all_say es)) (rw (eq-eqb item.slot.0 item.slot.0 refl) refl)
all_say (Make t width height maker ∷ es) = All-weaker (Says es) (Says (Make t width height maker ∷ es)) (λ last says. same last says) (last_of_each es) (all_say es)
  where
    same : (last : Last) → Says es last → Says (Make t width height maker ∷ es) last
    same (Returned s) says = says
    same (Waiting item) says = says
    same (Elsewhere s) says = tt
all_say (Mark t ∷ es) = All-weaker (Says es) (Says (Mark t ∷ es)) (λ last says. same last says) (last_of_each es) (all_say es)
  where
    same : (last : Last) → Says es last → Says (Mark t ∷ es) last
    same (Returned s) says = says
    same (Waiting item) says = says
    same (Elsewhere s) says = tt
all_say (Unmark ∷ es) = All-weaker (Says es) (Says (Unmark ∷ es)) (λ last says. same last says) (last_of_each es) (all_say es)
  where
    same : (last : Last) → Says es last → Says (Unmark ∷ es) last
    same (Returned s) says = says
    same (Waiting item) says = says
    same (Elsewhere s) says = tt

-- the items wait in slots that are queued, and the freed slots are free
abbrev pub WaitsQueued : List Event → PlainItem → Type 0
WaitsQueued es item = state_after es item.slot.0 ≡ Queued

abbrev pub IsFreeAfter : List Event → ℕ → Type 0
IsFreeAfter es s = state_after es s ≡ Free

waiting_of : (es : List Event) (lasts : List Last) → All (Says es) lasts → All (WaitsQueued es) (filter_map waiting_item lasts)
waiting_of es [] says = All-nil (WaitsQueued es)
waiting_of es (Returned s ∷ lasts) says = waiting_of es lasts (All-tail (Says es) (Returned s) lasts says)
waiting_of es (Waiting item ∷ lasts) says =
    All-cons (WaitsQueued es) item (filter_map waiting_item lasts) (All-head (Says es) (Waiting item) lasts says) (waiting_of es lasts (All-tail (Says es) (Waiting item) lasts says))
waiting_of es (Elsewhere s ∷ lasts) says = waiting_of es lasts (All-tail (Says es) (Elsewhere s) lasts says)

returned_of : (es : List Event) (lasts : List Last) → All (Says es) lasts → All (IsFreeAfter es) (filter_map returned_slot lasts)
returned_of es [] says = All-nil (IsFreeAfter es)
returned_of es (Returned s ∷ lasts) says =
    All-cons (IsFreeAfter es) s (filter_map returned_slot lasts) (All-head (Says es) (Returned s) lasts says) (returned_of es lasts (All-tail (Says es) (Returned s) lasts says))
returned_of es (Waiting item ∷ lasts) says = returned_of es lasts (All-tail (Says es) (Waiting item) lasts says)
returned_of es (Elsewhere s ∷ lasts) says = returned_of es lasts (All-tail (Says es) (Elsewhere s) lasts says)

pub items_wait : (es : List Event) → All (WaitsQueued es) (items_after es)
items_wait es = waiting_of es (last_of_each es) (all_say es)

pub freed_free : (es : List Event) → All (IsFreeAfter es) (freed_after es)
freed_free es = returned_of es (last_of_each es) (all_say es)
