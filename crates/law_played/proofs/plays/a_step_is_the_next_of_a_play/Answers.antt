use Rattle.law_played.proofs.SteppingLemmas.{idle_ended, idle_waits, in_time, transition_is}
use Rattle.law_played.proofs.plays.a_step_is_the_next_of_a_play.Goals as goal

pub returns-clause-done : goal.returns-clause-done
returns-clause-done c = λ more.
    transition_is more.actor.scene more.actor.state more.actor.script more.done more.later more.arrived more.does more.actor.declared
    (in_time more.actor.scene more.actor.state more.actor.script more.done more.later more.arrived more.does more.in_time)

pub returns-clause-ended : goal.returns-clause-ended
returns-clause-ended c = λ actor. idle_ended actor.scene actor.state actor.script actor.declared

pub returns-clause-waits : goal.returns-clause-waits
returns-clause-waits c = λ actor s. idle_waits actor.scene actor.state actor.script s actor.declared
