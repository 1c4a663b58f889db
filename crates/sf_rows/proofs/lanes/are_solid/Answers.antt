use Rattle.std.proofs.lemmas.Simd.{bytes_below}
use Rattle.sf_rows.proofs.RowLemmas.{solid_of}
use Rattle.sf_rows.proofs.lanes.are_solid.Goals as goal

pub returns : goal.returns
returns c = λ yes dst k h.
    solid_of dst c.args.src c.left_by_alphas.result c.fits-src.0 (bytes_below c.args.src c.fits-src.1) c.left_by_alphas.ensures.each (c.leaves_nothing.ensures yes) k h
