use Rattle.law_rights.proofs.CallKeepsState.{call_keeps}
use Rattle.law_rights.proofs.laws.a_call_keeps_the_ledger.Goals as goal

pub returns : goal.returns
returns g c = λ call. call_keeps call.old call.new call.by call.queue call.step call.asked call.reply call.is
