use Rattle.std.proofs.Common.{◌≡◌, ◌∙◌, sym, subst}
use Rattle.std.specs.List.{All}
use Rattle.std.proofs.lemmas.List.{take_all}
use Rattle.sf_region.specs.Canonical.{IsBanded}
use Rattle.sf_region.specs.Points.{IsInBounds}
use Rattle.sf_damage.proofs.BoundsLemmas.{banded_at}
use Rattle.sf_damage.proofs.windows.rects_of.Goals as goal

pub returns-clause-near : goal.returns-clause-near
returns-clause-near c =
    let same = c.rects-rect-items.ensures.same in
    let all : c.loop-rect.rects.items ≡ c.args.region.now = c.loop-rect.invariant ∙ take_all c.loop-rect.rect-index c.args.region.now (rw same at c.loop-rect-test.false) in
    let near : All IsInBounds c.args.region.now = λ k d h. banded_at c.args.region.now k d h (subst IsBanded same c.rects-rect-items.ensures.canonical.banded) in
    subst (All IsInBounds) (sym all) near
