use Rattle.sf_play.proofs.Late.{fits_late, played_live}
use Rattle.sf_play.proofs.laws.replies_may_be_shown_last.Goals as goal

pub returns-clause-fits : goal.returns-clause-fits
returns-clause-fits g c = λ run. fits_late run.table run.scene run.so run.player run.stands run.ends

pub returns-clause-live : goal.returns-clause-live
returns-clause-live g c = λ run. played_live run.table run.scene run.so run.player run.stands run.ends
