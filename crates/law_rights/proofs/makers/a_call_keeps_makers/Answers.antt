use Rattle.law_rights.proofs.MakersForms.{form_keeps}
use Rattle.law_rights.proofs.makers.a_call_keeps_makers.Goals as goal

pub returns : goal.returns
returns g c = λ call.
    let so = call.so in
    form_keeps call.queue call.from so.run call.after so.most call.more so.stays so.places call.new call.rises so.are call.asked call.answered call.places call.run
