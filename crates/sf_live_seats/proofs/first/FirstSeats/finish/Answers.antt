use Rattle.std.proofs.Common.{◌∙◌, refl, sym}
use Rattle.sf_live_seats.specs.declared.at_intake.AtIntake.TheVariants as at
use Rattle.sf_live_seats.specs.declared.first.FirstSeats.{FirstSeats}
use Rattle.sf_live_seats.specs.declared.seats.Seats.{Seats}
use Rattle.sf_live_seats.proofs.IntakeArrivals.{later_none}
use Rattle.sf_live_seats.proofs.ReunitedPass.{reunite_locked, some_same, whole_locked}
use Rattle.sf_live_seats.proofs.FirstSeatsKept.{stays_first, stays_sent}
use Rattle.sf_live_seats.proofs.PassTake.{brings_change, finished, finished_own, taker_there}
use Rattle.sf_live_seats.proofs.first.FirstSeats.finish.Goals as goal

pub returns-in_default-clause-finishes : goal.returns-in_default-clause-finishes
returns-in_default-clause-finishes g c = record { same = refl; last = later_none c.args.self.now.seats.last; took = refl }

pub returns-in_default-clause-whole : goal.returns-in_default-clause-whole
returns-in_default-clause-whole g c = whole_locked g.B.TableName.table c.args.locks.now c.in_default.is c.args.ends.now c.requires.theirs

pub returns-in_default-clause-reunites : goal.returns-in_default-clause-reunites
returns-in_default-clause-reunites g c = reunite_locked g.B.TableName.table c.args.locks.now c.in_default.is c.args.ends.now c.requires.theirs

pub finish-requires : goal.finish-requires
finish-requires g c =
    let taker = taker_there g.B.TableName.table c.args.locks.now c.args.self.now.seats c.in-Takes.inbox c.in-Takes.inbox c.args.self.now.seats.last c.in-Takes.is c.requires.first.own in
    record { own = taker.own; couriers = taker.couriers; same = some_same (sym taker.intake ∙ c.in-Some.is); intake = c.in-Some.is; theirs = c.requires.theirs }

pub returns-clause-first : goal.returns-clause-first
returns-clause-first g c =
    let old = c.args.self.now in
    let seats : Seats g.row.B.Denot = record old.seats { intake = at.Finished; last = c.finish.new.last } in
    let own = finished_own g.B.TableName.table c.args.locks.now old.seats c.in-Takes.inbox c.finish.new.last c.in-Takes.is c.requires.first.own c.finish.ensures.last in
    let changes = brings_change old.seats seats (finished g.B.TableName.table c.args.locks.now old.seats c.in-Takes.inbox c.finish.new.last c.in-Takes.is c.requires.first.own c.finish.ensures.last) in
    let new : FirstSeats g.row.B.Denot = record { seats = seats; took = old.took } in
    stays_first g.B.TableName.table c.args.locks.now old new c.requires.first own (stays_sent old.seats new.seats changes) refl

pub returns-clause-finishes : goal.returns-clause-finishes
returns-clause-finishes g c = record { same = refl; last = c.finish.ensures.last; took = refl }

pub returns-clause-whole : goal.returns-clause-whole
returns-clause-whole g c = c.in_ok-finish.ensures.whole

pub returns-clause-reunites : goal.returns-clause-reunites
returns-clause-reunites g c = c.in_ok-finish.ensures.reunites
