use Rattle.std.proofs.lemmas.Simd.{bytes_below}
use Rattle.sf_rows.proofs.RowLemmas.{made_opaque}
use Rattle.sf_rows.proofs.lanes.four_opaque.Goals as goal

pub returns-clause-each : goal.returns-clause-each
returns-clause-each c = λ k h. rw c.capped_sums.ensures (made_opaque c.args.src c.fits-src.0 (bytes_below c.args.src c.fits-src.1) k h)
