use Rattle.std.proofs.Common.{◌∙◌, refl}
use Rattle.sf_region.proofs.PointLemmas.{combined_points}
use Rattle.sf_region.proofs.region.Region.combine.Goals as goal

pub returns : goal.returns
returns c = λ x y.
    rw (← c.self.view_is, ← c.other.view_is)
    (combined_points c.args.how _ _ _ c.in_ok-rects.ensures.canonical.banded c.self.invariant.banded c.other.invariant.banded
    (λ x y. c.in_ok-rects.ensures.kept x y ∙ rw (c.deref.ensures.value, c.deref-2.ensures.value) refl) x y)
