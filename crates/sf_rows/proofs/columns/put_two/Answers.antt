use Rattle.sf_rows.proofs.ColumnLemmas.{two_above, two_below, two_in}
use Rattle.sf_rows.proofs.columns.put_two.Goals as goal

pub returns-clause-pixels : goal.returns-clause-pixels
returns-clause-pixels c = λ j h. two_in c.args.dst.now c.args.two c.args.at j c.fits-two.0 c.requires.room h

pub returns-clause-below : goal.returns-clause-below
returns-clause-below c = λ i h. two_below c.args.dst.now c.args.two c.args.at i h

pub returns-clause-above : goal.returns-clause-above
returns-clause-above c = λ i h. two_above c.args.dst.now c.args.two c.args.at i c.fits-two.0 h
