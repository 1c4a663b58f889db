use Rattle.law_threads.specs.Cuts.{HasLedger}
use Rattle.law_threads.proofs.SentOnTheirWay.{part_put}
use Rattle.law_threads.proofs.forwards.what_was_sent_may_arrive_later.Goals as goal

pub returns-clause-sent : goal.returns-clause-sent
returns-clause-sent g c = λ late. (part_put late.whole HasLedger late.one late.stamp late.at late.goes late.rest late.last late.behind late.part).0

pub returns-clause-part : goal.returns-clause-part
returns-clause-part g c = λ late. (part_put late.whole HasLedger late.one late.stamp late.at late.goes late.rest late.last late.behind late.part).1
