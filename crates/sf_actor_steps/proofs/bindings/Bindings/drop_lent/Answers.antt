use Rattle.std.proofs.Common.{arith, ap, sym, ◌∙◌, None, get_or}
use Rattle.sf_actor_steps.specs.Calling.{with_held}
use Rattle.sf_actor_steps.specs.Leaving.{let_go_of}
use Rattle.sf_actor_steps.specs.declared.bindings.Bindings.{Bindings}
use Rattle.sf_actor_steps.proofs.DroppingLemmas.{changed_all, changed_none, changed_one_more}
use Rattle.sf_actor_steps.proofs.bindings.Bindings.drop_lent.Goals as goal

pub loop-name-init : goal.loop-name-init
loop-name-init g c = ap (λ names. record c.args.self.now { names = names }) (sym (changed_none (let_go_of c.args.queue) c.args.self.now.names))

pub loop-name-preserved : goal.loop-name-preserved
loop-name-preserved g c =
    c.drop_if_lent.ensures
    ∙ (ap (λ (bindings : Bindings _). with_held bindings c.loop-name.name (let_go_of c.args.queue (get_or bindings.names c.loop-name.name None))) c.loop-name.invariant
    ∙ ap (λ names. record c.args.self.now { names = names }) (changed_one_more (let_go_of c.args.queue) c.loop-name.name c.args.self.now.names))

pub returns : goal.returns
returns g c =
    c.loop-name.invariant
    ∙ ap (λ names. record c.args.self.now { names = names }) (changed_all (let_go_of c.args.queue) c.loop-name.name c.args.self.now.names (omega (arith, c.requires, c.loop-name-test.false)))
