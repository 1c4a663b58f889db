use Rattle.law_rights.proofs.MakersTold.{places_told}
use Rattle.law_rights.proofs.makers.a_call_does_to_places_what_is_told.Goals as goal

pub returns : goal.returns
returns g c = λ call. places_told call.old call.new call.by call.queue call.step call.asked call.reply call.from call.is
