use Rattle.law_waits.proofs.PassedArrivals.{none_passed, passed_refused}
use Rattle.law_waits.proofs.nobody_is_passed_over.Goals as goal

pub returns-clause-none : goal.returns-clause-none
returns-clause-none c = λ arrivals commits told leaves. none_passed arrivals commits told leaves.arrived leaves.left leaves.ready

pub returns-clause-example : goal.returns-clause-example
returns-clause-example c = passed_refused
