use Rattle.std.proofs.Common.{◌≡◌, subst}
use Rattle.sf_calls.specs.Histories.{calls_by}
use Rattle.sf_live_seats.specs.Arriving.{ArrivalsPass}
use Rattle.sf_live_seats.proofs.arrivals_seat.ArrivalsSeat.meet.Goals as goal

pub returns-clause-own_calls : goal.returns-clause-own_calls
returns-clause-own_calls g c = subst (λ (p : ArrivalsPass). calls_by p.by c.meet.new.self.seen ≡ calls_by p.by p.seen) c.self.view_is c.meet.ensures.own_calls
