use Rattle.std.proofs.Common.{arith, ◌∙◌, sym}
use Rattle.std.proofs.lemmas.Int.{ints}
use Rattle.sf_region.specs.Points.{moved}
use Rattle.sf_region.proofs.MovedLemmas.{covered}
use Rattle.test_layers.proofs.regions.translated.Goals as goal

pub translate-requires : goal.translate-requires
unfolding moved
translate-requires c = λ x y h.
    let at = covered c.args.rect x y (sym (c.in_ok-rect.ensures x y) ∙ h) in
    let near = c.requires.moved in (
      omega (arith, ints, at.0, near.left),
      omega (arith, ints, at.1, near.right),
      omega (arith, ints, at.2, near.top),
      omega (arith, ints, at.3, near.bottom),
    )
