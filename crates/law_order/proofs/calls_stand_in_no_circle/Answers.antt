use Rattle.law_order.proofs.Circles.{circle, crossed_refused}
use Rattle.law_order.proofs.calls_stand_in_no_circle.Goals as goal

pub returns-clause-circle : goal.returns-clause-circle
returns-clause-circle c = λ tells all has.
    circle tells all has.first has.second has.other_first has.other_second has.is_first has.is_second has.is_other_first has.is_other_second
    has.later has.other_later has.crosses has.crosses_too

pub returns-clause-example : goal.returns-clause-example
returns-clause-example c = crossed_refused
