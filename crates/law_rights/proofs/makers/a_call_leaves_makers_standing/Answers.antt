use Rattle.law_rights.proofs.MakersStanding.{makers_stand}
use Rattle.law_rights.proofs.makers.a_call_leaves_makers_standing.Goals as goal

pub returns : goal.returns
returns g c = λ followed.
    let call = followed.call in
    makers_stand call.old call.new call.by call.queue call.step call.asked call.reply call.from followed.before followed.after followed.most followed.more call.is
    followed.ledger followed.gets followed.rises followed.makers
