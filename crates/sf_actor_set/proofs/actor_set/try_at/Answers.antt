use Rattle.sf_actor_set.proofs.SteppingLemmas.{plays_at, same_scripts, steps_at}
use Rattle.sf_actor_set.proofs.actor_set.try_at.Goals as goal

pub try_step-requires-clause-plays : goal.try_step-requires-clause-plays
try_step-requires-clause-plays g c = plays_at _ _ c.args.actors.now c.args.index _ c.requires.there c.requires.may.plays

pub returns-clause-steps : goal.returns-clause-steps
returns-clause-steps g c =
    λ ofs keep. steps_at g.B.TableName.table _ c.args.index c.args.actors.now ofs c.args.desk.now c.try_step.new.desk c.index-actors-index.result c.try_step.new.self c.try_step.result
    c.requires.there c.requires.may.rising c.try_step.ensures.home c.try_step.ensures.steps keep

pub returns-clause-scripts : goal.returns-clause-scripts
returns-clause-scripts g c = same_scripts c.args.actors.now c.args.index _ c.try_step.new.self c.requires.there c.try_step.ensures.script
