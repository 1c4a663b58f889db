use Rattle.std.proofs.Common.{arith}
use Rattle.std.proofs.lemmas.Simd.{bytes_below}
use Rattle.sf_rows.proofs.EachLane.{are_capped}
use Rattle.sf_rows.proofs.RoundedProducts.{one_capped}
use Rattle.sf_rows.proofs.lanes.capped_sums.Goals as goal

pub returns : goal.returns
returns c = are_capped _ _ _ _ one_capped c.args.a c.args.b (omega (arith, c.fits-a.0, c.fits-b.0)) (bytes_below c.args.a c.fits-a.1) (bytes_below c.args.b c.fits-b.1)
