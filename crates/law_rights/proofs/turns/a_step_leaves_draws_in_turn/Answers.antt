use Rattle.law_rights.proofs.InTurnSteps.{step_in_turn}
use Rattle.law_rights.proofs.turns.a_step_leaves_draws_in_turn.Goals as goal

pub returns : goal.returns
returns g c = λ draws.
    let one = draws.one in
    let step = one.step in
    step_in_turn one.scene step.table step.buffers step.place step.pictures step.ofs step.actors step.nows step.before step.after step.stepped step.handler
    step.steps step.keep step.plays step.same_home step.over step.stands one.declared draws.limits draws.actors
    draws.knows draws.alone.first draws.alone.none_out one.makers draws.draws
