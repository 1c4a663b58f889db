use Rattle.std.proofs.Common.{sym, subst}
use Rattle.sf_actor.specs.sf_layer.Ranges.{IsOperation}
use Rattle.sf_actor.specs.sf_layer.declared.op.Op.{Op}
use Rattle.sf_actor.specs.Scripts.{layer_of}
use Rattle.sf_actor_steps.proofs.ShowingLemmas.{plain_op}
use Rattle.sf_actor_steps.proofs.bindings.Bindings.set.Goals as goal

pub set-requires-clause-plain : goal.set-requires-clause-plain
set-requires-clause-plain g c = plain_op c.op_of.result c.args.change (layer_of c.args.layer) c.op_of.ensures

pub set-requires-clause-in_range : goal.set-requires-clause-in_range
set-requires-clause-in_range g c = subst (λ (o : Op). IsOperation (layer_of c.args.layer, o)) (sym c.op_of.ensures) c.requires.operation
