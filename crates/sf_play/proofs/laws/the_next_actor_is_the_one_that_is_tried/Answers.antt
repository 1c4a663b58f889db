use Rattle.sf_play.proofs.NextActor.{next_is_tried, no_other_steps}
use Rattle.sf_play.proofs.laws.the_next_actor_is_the_one_that_is_tried.Goals as goal

pub returns-clause-tried : goal.returns-clause-tried
returns-clause-tried g c = λ action place. next_is_tried _ g.B.TableName.table action.ofs action.old action.new action.came_to place action.takes

pub returns-clause-no_other : goal.returns-clause-no_other
returns-clause-no_other g c = λ action place. no_other_steps _ g.B.TableName.table action.ofs action.old action.new action.came_to place action.takes
