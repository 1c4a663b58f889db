use Rattle.std.proofs.Common.{◌≤◌, sym, subst, arith}
use lib.Lanes.{Each1}
use Rattle.sf_rows.specs.inner.Channels.{mix}
use Rattle.sf_rows.proofs.EachLane.{zip2_each, are_mixed}
use Rattle.sf_rows.proofs.RoundedProducts.{mix_lane, mix_small}
use Rattle.sf_rows.proofs.lanes.mixed.Goals as goal

pub returns-clause-value : goal.returns-clause-value
returns-clause-value c =
    rw (c.products.ensures.value, c.products-2.ensures.value)
    (are_mixed _ (mix c.args.share) c.from.result c.from-2.result
    (λ x y hx hy. rw (c.from.ensures, c.from-2.ensures) (mix_lane c.args.share x y (omega (arith, c.ranges.share.fits)) hx hy))
    c.args.a c.args.b 8 c.fits-a.0 c.fits-b.0 c.requires.a c.requires.b)

pub returns-clause-small : goal.returns-clause-small
returns-clause-small c =
    subst (Each1 (λ x. x ≤ 255)) (sym (returns-clause-value c))
    (zip2_each _ _ (λ x y hx hy. mix_small c.args.share x y (omega (arith, c.ranges.share.fits)) hx hy) c.args.a c.args.b c.requires.a c.requires.b)
