use Rattle.std.proofs.Common.{◌≡◌, subst}
use Rattle.sf_calls.specs.Histories.{calls_by}
use Rattle.sf_live_seats.specs.Seats.{QueuePass}
use Rattle.sf_live_seats.proofs.queue_seat.QueueSeat.meet.Goals as goal

pub returns-clause-own_calls : goal.returns-clause-own_calls
returns-clause-own_calls g c = subst (λ (p : QueuePass g.row.B.Denot). calls_by p.by c.meet.new.self.seen ≡ calls_by p.by p.seen) c.self.view_is c.meet.ensures.own_calls
