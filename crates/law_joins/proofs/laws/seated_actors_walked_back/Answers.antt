use Rattle.law_joins.proofs.WalkingBack.{all_walked}
use Rattle.law_joins.proofs.laws.seated_actors_walked_back.Goals as goal

pub returns : goal.returns
returns g c = λ of.
    all_walked of.scene g.B.TableName.table of.locks of.known of.declared of.stock of.actors of.sent of.back of.came.are of.came.newcomers of.came.gets_seats of.came.unused of.came.came
