use Rattle.std.proofs.Common.{refl}
use Rattle.sf_base.specs.Points.{points_from}
use Rattle.sf_live_seats.specs.declared.seats.Seats.{Seats}
use Rattle.sf_live_seats.proofs.FirstSeatsKept.{stays_seen}
use Rattle.sf_live_seats.proofs.seats.Seats.see.Goals as goal

pub returns-clause-stays : goal.returns-clause-stays
returns-clause-stays g c =
    let new : Seats g.row.B.Denot = record c.args.self.now { times = c.see_all.new.self } in
    stays_seen c.args.self.now new (points_from 1 c.see_all.result.values) refl c.see_all.ensures.shown
