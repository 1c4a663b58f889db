use Rattle.std.proofs.Common.{◌≡◌, inl, inr, ⊎_elim, sym, arith}
use Rattle.sf_region.proofs.PointLemmas.{covers_none, one_canonical}
use Rattle.sf_region.proofs.region.Region.rect.Goals as goal

pub returns-then-rect-eq0 : goal.returns-then-rect-eq0
returns-then-rect-eq0 c = λ x y.
    rw c.empty.ensures
    (sym (covers_none c.args.rect x y
    (⊎_elim (λ (narrow : c.args.rect.width ≡ 0). inl narrow) (λ (low : (c.args.rect.width ≡ 0 → ⊥) × (c.args.rect.height ≡ 0)). inr low.1) c.then-rect-eq0.either)))

pub invariant_of-result : goal.invariant_of-result
invariant_of-result c =
    rw (c.in_ok-push.ensures.items, c.new-rects.ensures.items)
    (one_canonical c.args.rect c.requires (omega (arith, c.if-rect-eq0.false)) (omega (arith, c.if-rect-eq0-2.false)))
