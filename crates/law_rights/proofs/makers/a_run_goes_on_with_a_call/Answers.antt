use Rattle.law_rights.proofs.MakersGoing.{run_told}
use Rattle.law_rights.proofs.makers.a_run_goes_on_with_a_call.Goals as goal

pub returns : goal.returns
returns g c = λ call. run_told call.mark call.made call.earlier call.from call.before call.after call.gets
