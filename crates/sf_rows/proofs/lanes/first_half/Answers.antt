use Rattle.sf_rows.proofs.ColumnLemmas.{half_first}
use Rattle.sf_rows.proofs.lanes.first_half.Goals as goal

pub returns : goal.returns
returns c = half_first c.args.a c.args.a c.fits-a.0
