use Rattle.sf_rows.proofs.RowLemmas.{whole_of}
use Rattle.sf_rows.proofs.lanes.four_whole_pixels.Goals as goal

pub returns-clause-each : goal.returns-clause-each
returns-clause-each c = λ k h.
    rw c.capped_sums.ensures
    (whole_of c.args.dst c.args.src _ c.left_by_alphas.result c.fits-src.0 c.scaled.ensures.len c.left_by_alphas.ensures.each c.scaled.ensures.each k h)
