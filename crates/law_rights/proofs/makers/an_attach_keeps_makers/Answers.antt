use Rattle.law_rights.proofs.MakersComing.{attach_keeps}
use Rattle.law_rights.proofs.makers.an_attach_keeps_makers.Goals as goal

pub returns : goal.returns
returns c = λ on buffer stay step. (_, attach_keeps on.so.run on.after on.so.most on.more on.so.stays on.so.places on.new on.goes_on on.rises on.so.are on.known buffer stay step)
