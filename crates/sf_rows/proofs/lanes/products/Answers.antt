use Rattle.std.proofs.Common.{◌≡◌, ◌≤◌, sym, subst, arith, refl}
use lib.Lanes.{Each1, zip2}
use Rattle.sf_base.specs.Blend.{product}
use Rattle.sf_rows.proofs.EachLane.{map_same, zip2_each, are_products}
use Rattle.sf_rows.proofs.RoundedProducts.{one_lane, product_small}
use Rattle.sf_rows.proofs.lanes.products.Goals as goal

pub overflow_cast-result : goal.overflow_cast-result
overflow_cast-result c =
    subst (Each1 _) (sym (are_products _ _ _ _ _ one_lane c.args.a c.args.b 8 c.fits-a.0 c.requires.a c.requires.b))
    (zip2_each _ _ (λ x y hx hy. record { fits = omega (arith, product_small x y hx hy) }) c.args.a c.args.b c.requires.a c.requires.b)

pub returns-clause-value : goal.returns-clause-value
returns-clause-value c =
    subst (λ z. z ≡ zip2 product c.args.a c.args.b) (sym (map_same _ (λ x. refl) _)) (are_products _ _ _ _ _ one_lane c.args.a c.args.b 8 c.fits-a.0 c.requires.a c.requires.b)

pub returns-clause-small : goal.returns-clause-small
returns-clause-small c =
    subst (Each1 (λ x. x ≤ 255)) (sym (returns-clause-value c)) (zip2_each _ _ product_small c.args.a c.args.b c.requires.a c.requires.b)
