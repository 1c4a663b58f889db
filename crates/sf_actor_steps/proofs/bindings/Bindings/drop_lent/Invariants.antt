use Rattle.std.proofs.Common.{◌≡◌}
use Rattle.sf_actor_steps.specs.Leaving.{let_go_of}
use Rattle.sf_actor_steps.proofs.DroppingLemmas.{changed_to}
use Rattle.sf_actor_steps.proofs.bindings.Bindings.drop_lent.Given as goal

abbrev pub invariant-loop-name : goal.invariant-loop-name
invariant-loop-name g l = l.self ≡ record l.fn.self { names = changed_to (let_go_of l.fn.queue) l.name l.fn.self.names }
