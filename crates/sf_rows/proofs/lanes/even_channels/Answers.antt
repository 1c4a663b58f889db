use mir.Syntax.{w8}
use Rattle.std.proofs.lemmas.Simd.{below_from_Fits}
use Rattle.sf_rows.proofs.ByteWords.{even_at}
use Rattle.sf_rows.proofs.lanes.even_channels.Goals as goal

pub returns-clause-each : goal.returns-clause-each
returns-clause-each c = even_at c.args.a c.fits-a.0 (below_from_Fits w8 c.args.a c.fits-a.1)
