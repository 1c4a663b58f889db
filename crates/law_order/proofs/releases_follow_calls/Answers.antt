use Rattle.law_order.proofs.Circles.{released, released_first_refused}
use Rattle.law_order.proofs.releases_follow_calls.Goals as goal

pub returns-clause-release : goal.returns-clause-release
returns-clause-release c = λ tells all has.
    released tells all has.call has.release has.sent has.at has.commit has.is_call has.is_release has.is_sent has.shown has.commits
    has.by_sender has.step has.arrival has.by_compositor has.by_then has.too_late

pub returns-clause-example : goal.returns-clause-example
returns-clause-example c = released_first_refused
