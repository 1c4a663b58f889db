use Rattle.sf_actor_steps.proofs.NewLemmas.{new_actor_keeps}
use Rattle.sf_actor_steps.proofs.laws.a_new_actor_keeps_what_it_keeps.Goals as goal

pub returns : goal.returns
returns g c = new_actor_keeps
