use Rattle.law_draws.proofs.StepRights.{step_keeps}
use Rattle.law_draws.proofs.laws.a_step_leaves_rights_standing.Goals as goal

pub returns : goal.returns
returns g c = λ step. step_keeps step.scene step.calls step.old step.new step.apart step.declared step.legal step.does step.stand
