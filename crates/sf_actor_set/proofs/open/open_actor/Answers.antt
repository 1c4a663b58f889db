use Rattle.std.proofs.Common.{ap, arith}
use Rattle.sf_actor_steps.specs.sf_actor.Tries.{dequeues_in}
use Rattle.sf_actor_set.proofs.OpeningLemmas.{dequeues_few}
use Rattle.sf_actor_set.proofs.open.open_actor.Goals as goal

pub overflow_cast-dequeues : goal.overflow_cast-dequeues
overflow_cast-dequeues g c =
    let counted = c.dequeues.ensures in
    let steps = ap dequeues_in c.as_slice.ensures in
    let most = dequeues_few c.args.script.steps in
    let few = c.requires.few in
    omega (arith, counted, steps, most, few)
