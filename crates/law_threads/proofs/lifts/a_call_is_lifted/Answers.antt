use Rattle.law_threads.specs.Cuts.{HasLedger}
use Rattle.law_threads.proofs.LedgerViews.{ledger_goes}
use Rattle.law_threads.proofs.CallLift.{lifts_call}
use Rattle.law_threads.proofs.lifts.a_call_is_lifted.Goals as goal

pub returns : goal.returns
returns g c = λ call on.
    let run = call.run in
    lifts_call run.whole run.pictures run.home run.marks run.apart run.absent call.was call.is call.s call.before call.after call.old call.new call.status call.values call.tries HasLedger
    (ledger_goes run.whole call.was call.is call.s call.before) on call.begins
