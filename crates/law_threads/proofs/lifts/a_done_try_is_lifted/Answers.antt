use Rattle.law_threads.specs.Cuts.{HasLedger}
use Rattle.law_threads.proofs.LedgerViews.{ledger_gives, ledger_goes}
use Rattle.law_threads.proofs.TryOutcomes.{comes}
use Rattle.law_threads.proofs.lifts.a_done_try_is_lifted.Goals as goal

pub returns : goal.returns
returns g c = λ done legal.
    let run = done.run in
    comes run.whole run.pictures run.home run.marks run.apart run.absent legal done.was done.is done.before done.after done.old done.new done.begins HasLedger
    (λ next to does. ledger_goes run.whole done.was done.is next done.before) (ledger_gives run.whole) done.s done.came_to done.tries
