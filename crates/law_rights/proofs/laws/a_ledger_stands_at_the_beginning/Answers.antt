use Rattle.law_rights.proofs.EmptyLedger.{begins_standing}
use Rattle.law_rights.proofs.laws.a_ledger_stands_at_the_beginning.Goals as goal

pub returns : goal.returns
returns g c = λ buffers now. begins_standing buffers now.home now.view now.ofs now.handler
