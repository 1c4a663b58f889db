use Rattle.std.proofs.Common.{◌/◌, refl, arith}
use Rattle.sf_rows.proofs.RowLemmas.{pixels_of, splat_at}
use Rattle.sf_rows.proofs.lanes.four_pixels.Goals as goal

pub returns-clause-each : goal.returns-clause-each
returns-clause-each c = λ k h.
    rw c.capped_sums.ensures
    (pixels_of c.args.dst c.args.src _ _ c.left_by_alphas.result c.args.alpha c.scaled-painted.ensures.len c.scaled.ensures.len
    (λ k h. rw (c.scaled-painted.ensures.each k h, splat_at 8 c.from.result (k / 2) (omega (arith, h)), c.from.ensures) refl)
    c.left_by_alphas.ensures.each c.scaled.ensures.each k h)
