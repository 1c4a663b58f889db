use Rattle.sf_rows.proofs.ByteWords.{made_even, made_odd}
use Rattle.sf_rows.proofs.lanes.in_turn.Goals as goal

pub returns-clause-even : goal.returns-clause-even
returns-clause-even c = made_even c.args.even c.args.odd c.fits-even.0 c.fits-odd.0 c.requires.even c.requires.odd

pub returns-clause-odd : goal.returns-clause-odd
returns-clause-odd c = made_odd c.args.even c.args.odd c.fits-even.0 c.fits-odd.0 c.requires.even c.requires.odd
