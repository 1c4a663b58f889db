use Rattle.law_rights.proofs.MakersKeeping.{run_keeps}
use Rattle.law_rights.proofs.makers.a_run_that_goes_on_keeps_makers.Goals as goal

pub returns : goal.returns
returns c = λ so new more on grows. run_keeps so.run new so.most more so.stays so.places on grows so.are
