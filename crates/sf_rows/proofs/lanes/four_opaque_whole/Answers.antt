use Rattle.std.proofs.lemmas.Simd.{bytes_below}
use Rattle.sf_rows.proofs.RowLemmas.{opaque_whole_of}
use Rattle.sf_rows.proofs.lanes.four_opaque_whole.Goals as goal

pub returns-clause-each : goal.returns-clause-each
returns-clause-each c = λ k h.
    rw (c.four_opaque.ensures.each k h) (opaque_whole_of c.args.dst c.args.src c.fits-src.0 (bytes_below c.args.src c.fits-src.1) k h)
