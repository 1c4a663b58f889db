use Rattle.sf_rows.proofs.ColumnLemmas.{half_last}
use Rattle.sf_rows.proofs.lanes.last_half.Goals as goal

pub returns : goal.returns
returns c = half_last c.args.a c.args.a c.fits-a.0
