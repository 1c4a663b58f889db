use Rattle.std.proofs.Common.{refl, inl, inr, ◌∙◌, sym, ap}
use Rattle.sf_region.proofs.BandLemmas.{same_rows, other_rows}
use Rattle.sf_region.proofs.bands.Bands.turn.Goals as goal

pub returns-then-eq : goal.returns-then-eq
returns-then-eq c =
    inl (sym c.as_slice.ensures.value ∙ (same_rows _ _ c.eq.result c.eq.ensures c.if-eq.true ∙ c.as_slice-2.ensures.value), refl, refl, refl)

pub returns : goal.returns
returns c =
    inr (
      (λ e. other_rows _ _ c.eq.result c.eq.ensures c.if-eq.false (c.as_slice.ensures.value ∙ (e ∙ sym c.as_slice-2.ensures.value))),
      c.in_ok-close.ensures.rects,
      ap (λ v. v.items) c.swap.ensures.y_after,
      refl,
    )
