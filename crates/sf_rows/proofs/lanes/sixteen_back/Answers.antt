use Rattle.std.proofs.Common.{w8}
use Rattle.std.proofs.lemmas.Simd.{below_from_Fits}
use Rattle.sf_rows.proofs.QuadWords.{byte_back}
use Rattle.sf_rows.proofs.lanes.sixteen_back.Goals as goal

pub returns-clause-each : goal.returns-clause-each
returns-clause-each c = λ k j row column. byte_back c.args.pixels c.fits-pixels.0 (below_from_Fits w8 c.args.pixels c.fits-pixels.1) k j row column
