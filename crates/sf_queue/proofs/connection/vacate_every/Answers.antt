use Rattle.sf_slots.specs.Effects.{all_vacated}
use Rattle.sf_queue.proofs.connection.vacate_every.Goals as goal

pub returns : goal.returns
unfolding all_vacated
returns g c = c.vacate_all.ensures
