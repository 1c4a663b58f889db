use Rattle.law_rights.proofs.MakersComing.{make_keeps}
use Rattle.law_rights.proofs.makers.a_buffer_that_is_made_keeps_makers.Goals as goal

pub returns : goal.returns
returns c = λ on buffer stay step. (_, make_keeps on.so.run on.after on.so.most on.more on.so.stays on.so.places on.new on.goes_on on.rises on.so.are on.known buffer stay step)
