use Rattle.law_rights.proofs.MakersStepping.{live_from}
use Rattle.law_rights.proofs.makers.rights_stay_where_they_were.Goals as goal

pub returns : goal.returns
returns g c = λ call. live_from call.old call.new call.by call.queue call.step call.asked call.reply call.from call.is
