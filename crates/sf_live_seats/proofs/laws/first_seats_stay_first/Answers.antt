use Rattle.sf_live_seats.proofs.FirstSeatsKept.{stays_called, stays_first, stays_looked, stays_sent}
use Rattle.sf_live_seats.proofs.laws.first_seats_stay_first.Goals as goal

pub returns-clause-stays : goal.returns-clause-stays
returns-clause-stays g c = λ locks old new first own stays same. stays_first g.B.TableName.table locks old new first own stays same

pub returns-clause-called : goal.returns-clause-called
returns-clause-called g c = λ old new changes. stays_called old new changes

pub returns-clause-sent : goal.returns-clause-sent
returns-clause-sent g c = λ old new changes. stays_sent old new changes

pub returns-clause-looked : goal.returns-clause-looked
returns-clause-looked g c = λ old new same goes. stays_looked old new same goes
