use Rattle.sf_rows.proofs.ColumnLemmas.{first_left, first_right}
use Rattle.sf_rows.proofs.lanes.first_pairs.Goals as goal

pub returns-clause-left : goal.returns-clause-left
returns-clause-left c = first_left c.args.a c.args.b c.fits-a.0

pub returns-clause-right : goal.returns-clause-right
returns-clause-right c = first_right c.args.a c.args.b c.fits-a.0
