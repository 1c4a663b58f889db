use Rattle.law_rights.proofs.MakersCalling.{call_places}
use Rattle.law_rights.proofs.makers.a_call_tells_places.Goals as goal

pub returns : goal.returns
returns g c = λ call from right there. call_places call.mark call.earlier call.by call.step call.asked call.reply call.replied from right there
