use Rattle.law_rights.proofs.CallBalance.{call_moves}
use Rattle.law_rights.proofs.laws.a_call_moves_rights.Goals as goal

pub returns : goal.returns
returns g c = λ call. call_moves call.mark call.earlier call.by call.step call.asked call.reply call.replied
