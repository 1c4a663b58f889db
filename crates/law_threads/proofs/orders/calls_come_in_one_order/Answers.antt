use Rattle.law_threads.proofs.LeastStamp.{ordered}
use Rattle.law_threads.proofs.orders.calls_come_in_one_order.Goals as goal

pub returns : goal.returns
returns c = λ calls. ordered (λ spot. spot) calls.many calls.stamp calls.rise calls.heights calls.rest calls.cut calls.turn
