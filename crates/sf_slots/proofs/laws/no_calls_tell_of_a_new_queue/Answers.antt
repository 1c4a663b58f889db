use Rattle.std.proofs.Common.{refl}
use Rattle.sf_slots.proofs.laws.no_calls_tell_of_a_new_queue.Goals as goal

pub returns : goal.returns
returns g c = λ number width height. refl
