use Rattle.law_rights.proofs.StepLedger.{step_stands}
use Rattle.law_rights.proofs.laws.a_step_leaves_the_ledger_standing.Goals as goal

pub returns : goal.returns
returns g c = λ step.
    step_stands step.table step.buffers step.place step.pictures step.ofs step.actors step.nows step.before step.after step.stepped step.handler
    step.steps step.keep step.plays step.same_home step.over step.stands
