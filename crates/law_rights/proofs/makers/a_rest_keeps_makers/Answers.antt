use Rattle.law_rights.proofs.MakersKeeping.{rest_keeps}
use Rattle.law_rights.proofs.makers.a_rest_keeps_makers.Goals as goal

pub returns : goal.returns
returns c = λ so new rests. rest_keeps so.run so.most so.stays so.places new so.are rests
