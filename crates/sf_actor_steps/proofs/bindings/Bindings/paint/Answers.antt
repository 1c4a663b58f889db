use Rattle.std.proofs.Common.{Some, refl, ap}
use Rattle.sf_actor.specs.declared.holding.Holding.TheVariants as holding
use Rattle.sf_actor_steps.proofs.bindings.Bindings.paint.Goals as goal

pub returns-in-Ok-clause-tries : goal.returns-in-Ok-clause-tries
returns-in-Ok-clause-tries g c =
    (refl, Some (holding.Lends c.in-Ok.lease), (c.in-Ok.lease, c.in-Ok.ensures.draws, refl), ap (λ names. record c.args.self.now { names = names }) c.put.ensures)
