use Rattle.law_threads.specs.Cuts.{HasLedger}
use Rattle.law_threads.proofs.ArrivalEvents.{goes_forward}
use Rattle.law_threads.proofs.arrives.what_is_on_its_way_arrives.Goals as goal

pub returns : goal.returns
returns g c = λ sending.
    goes_forward sending.whole HasLedger (λ old new marks actors rests holds. (rests holds).ledger) sending.more sending.history sending.e sending.whole_is sending.step sending.txn sending.sends
