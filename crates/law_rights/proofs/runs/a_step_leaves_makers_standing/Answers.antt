use Rattle.law_rights.proofs.MakersPlayed.{step_makers}
use Rattle.law_rights.proofs.runs.a_step_leaves_makers_standing.Goals as goal

pub returns : goal.returns
returns g c = λ one apart.
    let step = one.step in
    step_makers one.scene step.table step.buffers step.place step.pictures step.ofs step.actors step.nows step.before step.after step.stepped step.handler
    step.steps step.keep step.plays step.same_home step.over step.stands one.declared apart one.makers
