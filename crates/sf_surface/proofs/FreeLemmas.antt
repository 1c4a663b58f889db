-- The slot that is used next is free.
use Rattle.std.proofs.Common.{◌≡◌, ℕ, ◌<◌, ◌&&◌, Bool, true, false, not, is_some, get_or, take, arith, ap, ◌∙◌, sym, refl, subst, Option, Some, None}
use Rattle.std.specs.Prelude.{IfSome, slice_get}
use Rattle.std.specs.Option.{option_or}
use Rattle.std.proofs.lemmas.List.{length-take, get_or-take}
use Rattle.std.proofs.lemmas.List.Quantifiers.{position-Some}
use Rattle.sf_slots.specs.declared.slot.SlotState.{SlotState}
use Rattle.sf_slots.specs.declared.slot.SlotState.TheVariants.{Free, Dequeued, Queued, Acquired}
use Rattle.sf_slots.specs.Told.{unused, is_in, is_bare, same_state, usable, slot_for, lowest_bare, first_freed}
use Rattle.sf_slots.specs.Queue.{Queue, IsSound, IsFreeSlot, slot_in, told_of}
use Rattle.sf_slots.proofs.Sound.{first_is_free}

state_free : (state : SlotState) → same_state state Free ≡ true → state ≡ Free
state_free Free met = refl
state_free Dequeued met = absurd (cc (met))
state_free Queued met = absurd (cc (met))
state_free Acquired met = absurd (cc (met))

both : (a b : Bool) → (a && b) ≡ true → a ≡ true
both true b met = refl
both false b met = absurd (cc (met))

-- what holds of each of two that may be there holds of the one that is found
either : (P : ℕ → Type 0) (a b : Option ℕ) → IfSome a P → IfSome b P → (s : ℕ) → option_or a b ≡ Some s → P s
either P (Some x) b first second s found = subst P (cc (found)) first
either P None (Some x) first second s found = subst P (cc (found)) second
either P None None first second s found = absurd (cc (found))

module _ {R : Type 0} (q : Queue R) (sound : IsSound q) where
  IsFree : ℕ → Type 0
  IsFree s = (slot_in q s).state ≡ Free

  freed_there : (found : Option ℕ) → IfSome found (IsFreeSlot q) → IfSome found IsFree
  unfolding IsFree
  freed_there (Some s) is = is.free
  freed_there None is = tt

  bare_there : (found : Option ℕ) → lowest_bare (told_of q) ≡ found → IfSome found IsFree
  unfolding IsFree
  bare_there None same = tt
  bare_there (Some s) same =
      let at = position-Some is_bare (take (usable q.settings) q.slots) s unused same in
      let low : s < usable q.settings = omega (arith, at.0, length-take (usable q.settings) q.slots) in
      let place : get_or (take (usable q.settings) q.slots) s unused ≡ get_or q.slots s unused = get_or-take (usable q.settings) q.slots s unused low in
      let bare : is_bare (slot_in q s) ≡ true = ap is_bare (sym place) ∙ at.1 in
      state_free (slot_in q s).state (both (is_in Free (slot_in q s)) (not (is_some (slot_in q s).held)) bare)

  pub next_free : (with_buffer : Bool) (s : ℕ) → slot_for with_buffer (told_of q) ≡ Some s → (slot_in q s).state ≡ Free
  unfolding IsFree
  next_free true s found = either IsFree (first_freed (told_of q)) (lowest_bare (told_of q)) (freed_there (slice_get q.freed 0) (first_is_free q sound)) (bare_there (lowest_bare (told_of q)) refl) s found
  next_free false s found = either IsFree (lowest_bare (told_of q)) (first_freed (told_of q)) (bare_there (lowest_bare (told_of q)) refl) (freed_there (slice_get q.freed 0) (first_is_free q sound)) s found
