use Rattle.std.proofs.Common.{◌≡◌, ◌∙◌, sym, ap}
use Rattle.std.specs.Prelude.{ℤ}
use Rattle.sf_region.specs.Points.{has}
use Rattle.sf_region.proofs.SameLemmas.{same_region, lists_decide}
use Rattle.sf_region.proofs.region.Region.is_same.Goals as goal

pub returns-clause-same : goal.returns-clause-same
returns-clause-same c =
    let decides = lists_decide c.as_slice.result.now c.as_slice-2.result.now c.eq.result c.eq.ensures in (
      (λ t x y.
          ap (λ z. has z x y) (sym c.self.view_is ∙ (sym c.as_slice.ensures.value ∙ (decides.0 t ∙ (c.as_slice-2.ensures.value ∙ c.other.view_is))))),
      (λ h.
          let points : (x y : ℤ) → has c.self.inside.rects.items x y ≡ has c.other.inside.rects.items x y = λ x y.
          ap (λ z. has z x y) c.self.view_is ∙ (h x y ∙ sym (ap (λ z. has z x y) c.other.view_is)) in
          decides.1 (c.as_slice.ensures.value
          ∙ (same_region c.self.inside.rects.items c.other.inside.rects.items c.self.invariant c.other.invariant points ∙ sym c.as_slice-2.ensures.value))),
    )

pub returns-clause-canonical : goal.returns-clause-canonical
returns-clause-canonical c = λ h.
    let points : (x y : ℤ) → has c.self.inside.rects.items x y ≡ has c.other.inside.rects.items x y = λ x y.
    ap (λ z. has z x y) c.self.view_is ∙ (h x y ∙ sym (ap (λ z. has z x y) c.other.view_is)) in
    sym c.self.view_is ∙ (same_region c.self.inside.rects.items c.other.inside.rects.items c.self.invariant c.other.invariant points ∙ c.other.view_is)
