use Rattle.law_rights.proofs.MoveKeepsLedger.{move_keeps}
use Rattle.law_rights.proofs.laws.a_move_keeps_a_ledger.Goals as goal

pub returns : goal.returns
returns c = move_keeps
