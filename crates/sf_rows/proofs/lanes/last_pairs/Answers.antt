use Rattle.sf_rows.proofs.ColumnLemmas.{last_left, last_right}
use Rattle.sf_rows.proofs.lanes.last_pairs.Goals as goal

pub returns-clause-left : goal.returns-clause-left
returns-clause-left c = last_left c.args.a c.args.b c.fits-a.0

pub returns-clause-right : goal.returns-clause-right
returns-clause-right c = last_right c.args.a c.args.b c.fits-a.0
