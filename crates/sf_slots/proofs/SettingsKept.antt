-- What a change of settings keeps.
use Rattle.std.proofs.Common.{◌≡◌, ℕ, ◌+◌, ◌-◌, ◌<◌, ◌≤◌, Bool, true, false, not, ◌||◌, is_some, zero, suc, List, [], ◌∷◌, length, get_or, arith, ap, ◌∙◌, sym, refl, drop, inl, inr, ◌==◌}
use Rattle.std.specs.Prelude.{nat_lt}
use Rattle.std.specs.List.{list_any, range_with_len}
use Rattle.std.proofs.lemmas.Bool.{cases_Bool}
use Rattle.std.proofs.lemmas.Bool.Decides.{nat_tests}
use Rattle.std.proofs.lemmas.List.{get_or-set_same, get_or-set_other, length-set}
use Rattle.sf_slots.specs.declared.settings.Settings.{Settings}
use Rattle.sf_slots.specs.declared.slot.Slot.{Slot}
use Rattle.sf_slots.specs.declared.slot.SlotState.TheVariants.{Free}
use Rattle.sf_slots.specs.Told.{unused, is_in, is_bare, usable, forbids}
use Rattle.sf_slots.specs.Queue.{Queue, IsSound, emptied, slot_in, retired, retired_all, told_of}
use Rattle.sf_slots.proofs.Sound.{left_true}

-- no element from a place on passes
none_from : (p : Slot → Bool) (slots : List Slot) (count s : ℕ) → list_any p (drop count slots) ≡ false → count ≤ s → s < length slots → p (get_or slots s unused) ≡ false
none_from p [] count s none from low = absurd (omega (arith, low))
none_from p (slot ∷ slots) zero zero none from low = elim (cases_Bool (p slot)) [ inl met ↦ absurd (cc (met, none)) | inr unmet ↦ unmet ]
none_from p (slot ∷ slots) zero (suc s) none from low = elim (cases_Bool (p slot)) [
  | inl met ↦ absurd (cc (met, none))
  | inr unmet ↦ none_from p slots zero s (sym (ap (λ b. b || list_any p slots) unmet) ∙ none) (omega arith) (omega (arith, low))
]
none_from p (slot ∷ slots) (suc count) zero none from low = absurd (omega (arith, from))
none_from p (slot ∷ slots) (suc count) (suc s) none from low = none_from p slots count s none (omega (arith, from)) (omega (arith, low))

or_false : (a b : Bool) → (a || b) ≡ false → (a ≡ false) × (b ≡ false)
or_false true b none = absurd (cc (none))
or_false false b none = (refl, none)

not_false : (a : Bool) → not a ≡ false → a ≡ true
not_false true none = refl
not_false false none = cc (none)

-- what is not forbidden leaves 64 slots at most, and only free ones outside
pub record Allows {R : Type 0} (q : Queue R) (count : ℕ) : Type 0 where
  pub fits : count ≤ 64
  pub outside : (s : ℕ) → count ≤ s → s < 64 → is_in Free (slot_in q s) ≡ true

pub allows : {R : Type 0} (q : Queue R) (count : ℕ) → length q.slots ≡ 64 → forbids (told_of q) count ≡ false → Allows q count
allows {R} q count sized allowed =
    let both = or_false (nat_lt 64 count) (list_any (λ slot. not (is_in Free slot)) (drop count q.slots)) allowed in
    record {
      fits = grind (arith, nat_tests, both.0);
      outside = λ s from low. not_false (is_in Free (slot_in q s)) (none_from (λ slot. not (is_in Free slot)) q.slots count s both.1 from (omega (arith, low, sized)));
    }

-- a slot that is retired is bare, and any other is as it was
retired-same : {R : Type 0} (q : Queue R) (s : ℕ) → s < length q.slots → is_in Free (slot_in q s) ≡ true → is_bare (slot_in (retired q s) s) ≡ true
retired-same {R} q s low free = rw (free, get_or-set_same q.slots s (emptied (slot_in q s)) unused low) refl

retired-other : {R : Type 0} (q : Queue R) (t s : ℕ) → (s ≡ t → ⊥) → slot_in (retired q t) s ≡ slot_in q s
retired-other {R} q t s other = elim (cases_Bool (is_in Free (slot_in q t))) [
  | inl met ↦ rw (met, get_or-set_other q.slots t s (emptied (slot_in q t)) unused other) refl
  | inr unmet ↦ rw unmet refl
]

length-retired : {R : Type 0} (q : Queue R) (t : ℕ) → length (retired q t).slots ≡ length q.slots
length-retired {R} q t = elim (cases_Bool (is_in Free (slot_in q t))) [
  | inl met ↦ rw met (length-set q.slots t (emptied (slot_in q t)))
  | inr unmet ↦ rw unmet refl
]

-- slots below those that are retired stay
retired_all-below : {R : Type 0} (q : Queue R) (a n s : ℕ) → s < a → slot_in (retired_all q (range_with_len a n)) s ≡ slot_in q s
retired_all-below {R} q a zero s low = refl
retired_all-below {R} q a (suc n) s low =
    retired_all-below (retired q a) (a + 1) n s (omega arith) ∙ retired-other q a s (λ e. omega (arith, low, e))

-- a free slot among those that are retired is bare then
retired_all-bare : {R : Type 0} (q : Queue R) (a n s : ℕ) → s < length q.slots → a ≤ s → s < a + n → is_in Free (slot_in q s) ≡ true → is_bare (slot_in (retired_all q (range_with_len a n)) s) ≡ true
retired_all-bare {R} q a zero s low from below free = absurd (omega (arith, from, below))
retired_all-bare {R} q a (suc n) s low from below free = elim (cases_Bool (s == a)) [
  | inl met ↦
      let here : s ≡ a = grind (arith, nat_tests, met) in
      rw here (ap is_bare (retired_all-below (retired q a) (a + 1) n a (omega arith)) ∙ retired-same q a (omega (arith, here, low)) (rw (← here) free))
  | inr unmet ↦
      let other : (s ≡ a) → ⊥ = (λ e. grind (arith, nat_tests, unmet, e)) in
      let shorter : s < length (retired q a).slots = rw (length-retired q a) low in
      retired_all-bare (retired q a) (a + 1) n s shorter (omega (arith, from, other)) (omega (arith, below)) (ap (is_in Free) (retired-other q a s other) ∙ free)
]

pub settings-retired_all : {R : Type 0} (q : Queue R) (xs : List ℕ) → (retired_all q xs).settings ≡ q.settings
settings-retired_all {R} q [] = refl
settings-retired_all {R} q (s ∷ xs) = settings-retired_all (retired q s) xs ∙ (elim (cases_Bool (is_in Free (slot_in q s))) [ inl met ↦ rw met refl | inr unmet ↦ rw unmet refl ])

-- no element from a place on passes where none of these does
none-drop : (p : Slot → Bool) (slots : List Slot) (count : ℕ) → ((s : ℕ) → count ≤ s → s < length slots → p (get_or slots s unused) ≡ false) → list_any p (drop count slots) ≡ false
none-drop p [] zero each = refl
none-drop p [] (suc count) each = refl
none-drop p (slot ∷ slots) zero each =
    let here : p slot ≡ false = each zero (omega arith) (omega arith) in
    rw here (none-drop p slots zero (λ s from low. each (suc s) (omega arith) (omega (arith, low))))
none-drop p (slot ∷ slots) (suc count) each = none-drop p slots count (λ s from low. each (suc s) (omega (arith, from)) (omega (arith, low)))

-- the settings of a queue allow what is there
pub allowed-own : {R : Type 0} (q : Queue R) → IsSound q → forbids (told_of q) (usable q.settings) ≡ false
allowed-own {R} q sound =
    let few : nat_lt 64 (usable q.settings) ≡ false = grind (arith, nat_tests, sound.fits) in
    let free : list_any (λ slot. not (is_in Free slot)) (drop (usable q.settings) q.slots) ≡ false =
    none-drop (λ slot. not (is_in Free slot)) q.slots (usable q.settings) (λ s from low.
    let bare = (sound.each s (omega (arith, low, sound.sized))).outside (grind (arith, nat_tests, from)) in
    ap not (left_true (is_in Free (slot_in q s)) (not (is_some (slot_in q s).held)) bare)) in
    rw few free

-- the settings change where nothing is left outside
pub IsSound-configured : {R : Type 0} (q after : Queue R) (settings : Settings) → IsSound q → Allows q (usable settings) → after ≡ retired_all q (range_with_len (usable settings) (usable q.settings - usable settings)) → IsSound after → IsSound (record after { settings = settings })
IsSound-configured {R} q after settings before allowed is sound = record {
  sized = sound.sized;
  rights_sized = sound.rights_sized;
  fits = allowed.fits;
  each = λ s low.
      let kept = sound.each s low in
      record {
        right = kept.right;
        listed = kept.listed;
        queued = kept.queued;
        outside = λ outer.
            let from : usable settings ≤ s = grind (arith, nat_tests, outer) in
            elim (cases_Bool (nat_lt s (usable q.settings))) [
              | inl met ↦
                  let inside : s < usable q.settings = grind (arith, nat_tests, met) in
                  rw is (retired_all-bare q (usable settings) (usable q.settings - usable settings) s (omega (arith, low, before.sized)) from (omega (arith, from, inside)) (allowed.outside s from low))
              | inr unmet ↦ kept.outside (ap (λ (a : Queue R). nat_lt s (usable a.settings)) is ∙ ap (λ (t : Settings). nat_lt s (usable t)) (settings-retired_all q (range_with_len (usable settings) (usable q.settings - usable settings))) ∙ unmet)
            ];
      };
  freed = sound.freed;
  items = sound.items;
}
