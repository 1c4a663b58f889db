use Rattle.sf_actor.proofs.GoingOn.{keeps_on}
use Rattle.sf_actor.proofs.laws.an_actor_keeps_what_it_keeps.Goals as goal

pub returns : goal.returns
returns g c = λ actor old new goes pictures is. keeps_on pictures actor old new goes is
