use Rattle.std.proofs.Common.{◌≡◌, ◌∙◌, ap, Bool, not, true, false, refl}
use Rattle.sf_slots.specs.declared.slot.Slot.{Slot}
use Rattle.sf_surface.proofs.LendLemmas.{next_fence}
use Rattle.sf_surface.proofs.object.next_may_have_points.Goals as goal

true_from : (b : Bool) → not b ≡ false → b ≡ true
true_from true same = refl
true_from false same = absurd (cc (same))

pub returns-in-Some : goal.returns-in-Some
returns-in-Some c = λ none s next.
    next_fence c.args.slots.now c.in-Some.slot.0 s c.slot.result.now.fence c.in-Some.ensures.slot next (ap (λ (k : Slot). k.fence) c.slot.ensures) (c.is_none.ensures.none (true_from c.is_none.result none))

pub returns-in-None : goal.returns-in-None
returns-in-None c = λ none s next. let both = c.in-None.ensures.slot ∙ next in absurd (cc (both))
