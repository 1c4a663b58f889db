use Rattle.std.proofs.Common.{subst, sym}
use Rattle.sf_live_seats.specs.Shared.{IsHome, SharedOf, home_of}
use Rattle.sf_live_seats.proofs.DeskHomes.{at_home}
use Rattle.sf_live_seats.proofs.shared.SharedDesk.into_parts.Goals as goal

pub returns-clause-own : goal.returns-clause-own
returns-clause-own g c = λ locks home.
    at_home g.B.TableName.table c.self.inside.locks.now locks c.self.inside.seats c.self.invariant.own
    (subst (λ (d : SharedOf g.row.B.Denot). IsHome locks (home_of d)) (sym c.self.view_is) home)
