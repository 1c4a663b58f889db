use Rattle.std.proofs.Common.{◌≡◌, arith, sym, refl}
use Rattle.std.proofs.lemmas.List.{get_or-set_other}
use Rattle.sf_slots.proofs.Sound.{last_alone, room_for_item, IsSound-kept_back}
use Rattle.sf_slots.proofs.slots.Slots.replace_last.Goals as goal

pub keep_back-requires-clause-slot : goal.keep_back-requires-clause-slot
keep_back-requires-clause-slot g c =
    let sound = c.self.invariant.sound in
    let alone = last_alone _ c.in-Some.last sound (sym c.in-Some.ensures.value) in
    omega (arith, alone.low, sound.sized)

pub keep_back-requires-clause-right : goal.keep_back-requires-clause-right
keep_back-requires-clause-right g c =
    let sound = c.self.invariant.sound in
    let alone = last_alone _ c.in-Some.last sound (sym c.in-Some.ensures.value) in
    omega (arith, alone.low, sound.rights_sized)

pub keep_back-requires-clause-room : goal.keep_back-requires-clause-room
keep_back-requires-clause-room g c =
    let sound = c.self.invariant.sound in
    let alone = last_alone _ c.in-Some.last sound (sym c.in-Some.ensures.value) in
    omega (arith, room_for_item _ c.in-Some.last _ sound alone, c.self.invariant.for_freed)

pub invariant_of-self : goal.invariant_of-self
invariant_of-self g c =
    let sound = c.self.invariant.sound in
    let alone = last_alone _ c.in-Some.last sound (sym c.in-Some.ensures.value) in
    record {
      for_freed = rw c.keep_back.ensures.freed c.self.invariant.for_freed;
      for_items = rw c.in-Some.ensures.items c.self.invariant.for_items;
      sound = rw (c.keep_back.ensures.slots, c.keep_back.ensures.rights, c.keep_back.ensures.freed, c.in-Some.ensures.items) (IsSound-kept_back _ c.in-Some.last _ sound alone);
    }

pub returns-in-Some-clause-others : goal.returns-in-Some-clause-others
returns-in-Some-clause-others g c = λ s lent.
    let sound = c.self.invariant.sound in
    let alone = last_alone _ c.in-Some.last sound (sym c.in-Some.ensures.value) in
    let inside = rw (← c.self.view_is) at lent in
    let other : (s ≡ c.in-Some.last.slot.0) → ⊥ = (λ same. cc (inside, alone.queued, same)) in
    rw (c.keep_back.ensures.slots, get_or-set_other _ _ _ _ _ other, ← c.self.view_is) refl
