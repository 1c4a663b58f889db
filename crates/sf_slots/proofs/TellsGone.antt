-- Moves that take the buffers out of several slots leave what the events of these slots tell.
use Rattle.std.proofs.Common.{◌≡◌, ℕ, ◌+◌, ◌<◌, ◌≤◌, suc, zero, Bool, true, false, ◌==◌, List, [], ◌∷◌, ◌++◌, get_or, arith, ap, ◌∙◌, sym, refl, map, filter, inl, inr, subst, ◌-◌, ap₂}
use Rattle.std.proofs.lemmas.Bool.{cases_Bool}
use Rattle.std.proofs.lemmas.Bool.Decides.{nat_tests}
use Rattle.std.proofs.lemmas.List.FromFn.{get_or-map-range_with_len}
use Rattle.std.specs.Prelude.{if◌then◌else◌}
use Rattle.std.specs.List.{range_with_len}
use Rattle.sf_slots.specs.declared.settings.Settings.{Settings}
use Rattle.sf_slots.specs.declared.slot.Slot.{Slot}
use Rattle.sf_slots.specs.declared.slot.SlotState.{SlotState}
use Rattle.sf_slots.specs.declared.slot.SlotState.TheVariants.{Free, Queued}
use Rattle.sf_slots.specs.Told.{unused, same_state, usable}
use Rattle.sf_slots.specs.Events.{Event, Gone, state_after, buffers_made, frames_queued}
use Rattle.sf_slots.specs.History.{slot_after, happening}
use Rattle.sf_slots.specs.Queue.{Queue, IsSound, slot_in, cleared, retired, retired_all, configured}
use Rattle.sf_slots.proofs.Sound.{IsSound-cleared}
use Rattle.sf_slots.proofs.Tells.{Tells, Tells-cleared}

-- events that take buffers away make none, and queue no frame
pub frames-gone : (xs : List ℕ) (es : List Event) → frames_queued (happening (map Gone xs) es) ≡ frames_queued es
frames-gone [] es = refl
frames-gone (x ∷ xs) es = frames-gone xs (Gone x ∷ es)

pub buffers-gone : (xs : List ℕ) (es : List Event) → buffers_made (happening (map Gone xs) es) ≡ buffers_made es
buffers-gone [] es = refl
buffers-gone (x ∷ xs) es = buffers-gone xs (Gone x ∷ es)

pub happening-append : (xs ys es : List Event) → happening (xs ++ ys) es ≡ happening ys (happening xs es)
happening-append [] ys es = refl
happening-append (x ∷ xs) ys es = happening-append xs ys (x ∷ es)

-- what is told of a slot's state
pub state_told : {R : Type 0} {q : Queue R} (es : List Event) → Tells q es → (s : ℕ) → s < 64 → (slot_in q s).state ≡ state_after es s
state_told {R} {q} es tells s low = ap (λ slots. (get_or slots s unused).state) tells.slots ∙ ap (λ (slot : Slot). slot.state) (get_or-map-range_with_len (slot_after es) 0 64 s s unused low (omega arith))

filter_same : (f g : ℕ → Bool) (xs : List ℕ) → ((x : ℕ) → f x ≡ g x) → filter f xs ≡ filter g xs
filter_same f g [] same = refl
filter_same f g (x ∷ xs) same = let e = filter_same f g xs same in elim (cases_Bool (g x)) [ inl met ↦ rw (same x, met) (ap (λ ys. x ∷ ys) e) | inr unmet ↦ rw (same x, unmet) e ]

-- the slots in some states lose their buffers
abbrev pub cleared_where : {R : Type 0} → (SlotState → Bool) → Queue R → List ℕ → Queue R
cleared_where which q [] = q
cleared_where which q (s ∷ more) = cleared_where which (if which (slot_in q s).state then cleared q s else q) more

-- a slot that lost its buffer was in such a state, and is free
still_same : (which : SlotState → Bool) → which Free ≡ true → (es : List Event) (s : ℕ) → which (state_after es s) ≡ true → (u : ℕ) → which (state_after es u) ≡ which (state_after (Gone s ∷ es) u)
still_same which free es s met u = elim (cases_Bool (s == u)) [
  | inl here ↦ let same : s ≡ u = grind (arith, nat_tests, here) in rw here (ap (λ t. which (state_after es t)) (sym same) ∙ met ∙ sym free)
  | inr there ↦ rw there refl
]

cleared_on : {R : Type 0} (which : SlotState → Bool) (q : Queue R) (s : ℕ) (more : List ℕ) → which (slot_in q s).state ≡ true → cleared_where which q (s ∷ more) ≡ cleared_where which (cleared q s) more
cleared_on which q s more met = ap (λ b. cleared_where which (if b then cleared q s else q) more) met

cleared_past : {R : Type 0} (which : SlotState → Bool) (q : Queue R) (s : ℕ) (more : List ℕ) → which (slot_in q s).state ≡ false → cleared_where which q (s ∷ more) ≡ cleared_where which q more
cleared_past which q s more unmet = ap (λ b. cleared_where which (if b then cleared q s else q) more) unmet

gone_on : (test : ℕ → Bool) (s : ℕ) (more : List ℕ) → test s ≡ true → map Gone (filter test (s ∷ more)) ≡ Gone s ∷ map Gone (filter test more)
gone_on test s more met = rw met refl

gone_past : (test : ℕ → Bool) (s : ℕ) (more : List ℕ) → test s ≡ false → map Gone (filter test (s ∷ more)) ≡ map Gone (filter test more)
gone_past test s more unmet = rw unmet refl

pub Tells-along : {R : Type 0} {q p : Queue R} (es fs : List Event) → q ≡ p → es ≡ fs → Tells p fs → Tells q es
Tells-along {R} {q} {p} es fs same alike tells = subst (λ (x : Queue R). Tells x es) (sym same) (subst (λ (x : List Event). Tells p x) (sym alike) tells)

pub Tells-cleared_where : {R : Type 0} (which : SlotState → Bool) → which Free ≡ true → which Queued ≡ false → (a n : ℕ) → ((u : ℕ) → a ≤ u → u < a + n → u < 64) → (q : Queue R) (es : List Event) → IsSound q → Tells q es → Tells (cleared_where which q (range_with_len a n)) (happening (map Gone (filter (λ s. which (state_after es s)) (range_with_len a n))) es)
Tells-cleared_where {R} which free queued a zero below q es sound tells = tells
Tells-cleared_where {R} which free queued a (suc n) below q es sound tells =
    let low : a < 64 = below a (omega arith) (omega arith) in
    let state : (slot_in q a).state ≡ state_after es a = state_told es tells a low in
    let rest : (u : ℕ) → a + 1 ≤ u → u < a + 1 + n → u < 64 = (λ u from to. below u (omega arith) (omega arith)) in
    let test : ℕ → Bool = λ s. which (state_after es s) in
    let test_after : ℕ → Bool = λ s. which (state_after (Gone a ∷ es) s) in
    let more : List ℕ = range_with_len (a + 1) n in
    elim (cases_Bool (which (state_after es a))) [
      | inl met ↦
          let here : which (slot_in q a).state ≡ true = ap which state ∙ met in
          let other : (slot_in q a).state ≡ Queued → ⊥ = (λ e. cc (here, ap which e, queued)) in
          let alike : filter test more ≡ filter test_after more = filter_same test test_after more (still_same which free es a met) in
          Tells-along _ _ (cleared_on which q a more here) (ap (λ gone. happening gone es) (gone_on test a more met) ∙ ap (λ left. happening (map Gone left) (Gone a ∷ es)) alike)
          (Tells-cleared_where which free queued (a + 1) n rest (cleared q a) (Gone a ∷ es) (IsSound-cleared sound a other) (Tells-cleared es sound tells a other))
      | inr unmet ↦
          Tells-along _ _ (cleared_past which q a more (ap which state ∙ unmet)) (ap (λ gone. happening gone es) (gone_past test a more unmet))
          (Tells-cleared_where which free queued (a + 1) n rest q es sound tells)
    ]

pub retired_is : {R : Type 0} (q : Queue R) (xs : List ℕ) → retired_all q xs ≡ cleared_where (λ state. same_state state Free) q xs
retired_is q [] = refl
retired_is q (x ∷ xs) = retired_is (retired q x) xs

numbers_within : (a b u : ℕ) → b ≤ 64 → a ≤ u → u < a + (b - a) → u < 64
numbers_within a b u fits from to = omega arith

-- free slots that are no longer usable lose their buffers
pub Tells-configured : {R : Type 0} (q : Queue R) (es : List Event) (settings : Settings) (count was : ℕ) → IsSound q → Tells q es → usable settings ≡ count → usable q.settings ≡ was → settings.frames ≡ q.settings.frames → settings.buffers ≡ q.settings.buffers → Tells (configured q settings) (happening (map Gone (filter (λ s. same_state (state_after es s) Free) (range_with_len count (was - count)))) es)
Tells-configured {R} q es settings count was sound tells counted were frames buffers =
    let xs : List ℕ = range_with_len count (was - count) in
    let gone : List ℕ = filter (λ s. same_state (state_after es s) Free) xs in
    let fits : was ≤ 64 = rw (← were) sound.fits in
    let left : Tells (retired_all q xs) (happening (map Gone gone) es) =
    Tells-along _ _ (retired_is q xs) refl (Tells-cleared_where (λ state. same_state state Free) refl refl count (was - count) (λ u from to. numbers_within count was u fits from to) q es sound tells) in
    let all : Tells (record (retired_all q xs) { settings = settings }) (happening (map Gone gone) es) = record {
      slots = left.slots;
      freed = left.freed;
      items = left.items;
      frames = frames ∙ tells.frames ∙ sym (frames-gone gone es);
      buffers = buffers ∙ tells.buffers ∙ sym (buffers-gone gone es);
    } in
    Tells-along _ _ (ap₂ (λ (low high : ℕ). record (retired_all q (range_with_len low (high - low))) { settings = settings }) counted were) refl all

-- with as many usable slots as before nothing else changes
pub configured_same : {R : Type 0} (q : Queue R) (settings : Settings) → usable settings ≡ usable q.settings → configured q settings ≡ record q { settings = settings }
configured_same {R} q settings same =
    let none : usable q.settings - usable settings ≡ 0 = rw same (nothing (usable q.settings)) in
    ap (λ n. record (retired_all q (range_with_len (usable settings) n)) { settings = settings }) none
  where
    nothing : (n : ℕ) → n - n ≡ 0
    nothing n = omega arith
