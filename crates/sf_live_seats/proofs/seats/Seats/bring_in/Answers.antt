use Rattle.std.proofs.Common.{◌+◌, ◌∙◌, refl, subst, sym}
use Rattle.sf_live_seats.specs.declared.at_intake.AtIntake.TheVariants as at
use Rattle.sf_live_seats.specs.Moves.{HasBrought}
use Rattle.sf_live_seats.proofs.ReunitedPass.{some_same}
use Rattle.sf_live_seats.proofs.PassTake.{brings_none, brought, brought_own, taker_there}
use Rattle.sf_live_seats.proofs.seats.Seats.bring_in.Goals as goal

pub returns-in_default-clause-brings : goal.returns-in_default-clause-brings
returns-in_default-clause-brings g c = brings_none c.args.self.now

pub bring-requires : goal.bring-requires
bring-requires g c =
    let taker = taker_there g.B.TableName.table c.args.locks.now c.args.self.now c.in-Takes.inbox c.in-Takes.inbox c.args.self.now.last c.in-Takes.is c.requires.own in
    record { own = taker.own; couriers = taker.couriers; intake = some_same (sym taker.intake ∙ c.in-Some.is) }

pub returns-in_err-bring-clause-own : goal.returns-in_err-bring-clause-own
returns-in_err-bring-clause-own g c = brought_own g.B.TableName.table c.args.locks.now c.args.self.now c.in-Takes.inbox c.bring.new.self c.bring.new.last c.in-Takes.is c.requires.own c.bring.ensures.own c.bring.ensures.couriers c.bring.ensures.same.intake c.bring.ensures.same.made c.bring.ensures.last

pub returns-in_err-bring-clause-brings : goal.returns-in_err-bring-clause-brings
returns-in_err-bring-clause-brings g c = brought g.B.TableName.table c.args.locks.now c.args.self.now c.in-Takes.inbox c.bring.new.self c.bring.new.last c.in-Takes.is c.requires.own c.bring.ensures.last

pub returns-clause-own : goal.returns-clause-own
returns-clause-own g c = brought_own g.B.TableName.table c.args.locks.now c.args.self.now c.in-Takes.inbox c.bring.new.self c.bring.new.last c.in-Takes.is c.requires.own c.bring.ensures.own c.bring.ensures.couriers c.bring.ensures.same.intake c.bring.ensures.same.made c.bring.ensures.last

pub returns-clause-brings : goal.returns-clause-brings
returns-clause-brings g c = brought g.B.TableName.table c.args.locks.now c.args.self.now c.in-Takes.inbox c.bring.new.self c.bring.new.last c.in-Takes.is c.requires.own c.bring.ensures.last

pub returns-clause-brought : goal.returns-clause-brought
returns-clause-brought g c =
    subst (λ at_intake. HasBrought (c.bring.new.last.stamp + 1) at_intake (at.Takes c.bring.new.self)) (sym c.in-Takes.is)
    (c.bring.new.self, refl, record { more = c.in_ok-bring.ensures.more; none = c.in_ok-bring.ensures.none; below = c.bring.ensures.couriers.below })
