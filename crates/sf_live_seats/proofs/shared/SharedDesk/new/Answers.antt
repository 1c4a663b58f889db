use Rattle.sf_live_seats.proofs.DeskHomes.{home_made}
use Rattle.sf_live_seats.proofs.shared.SharedDesk.new.Goals as goal

pub returns-clause-home : goal.returns-clause-home
returns-clause-home g c = home_made g.B.TableName.table c.args.locks.now c.args.seats c.requires.own
