use Rattle.std.proofs.Common.{◌∙◌, ap, List, subst}
use Rattle.sf_actor_steps.specs.sf_script_scene.declared.step.ActorScript.{ActorScript}
use Rattle.sf_actor_steps.specs.sf_actor.Plain.{PlainOf}
use Rattle.sf_actor_set.specs.Opening.{OpensActors}
use Rattle.sf_actor_set.proofs.ActorSetLemmas.{actor_set_is, actor_set_opens, enough_for}
use Rattle.sf_actor_set.proofs.actor_set.ActorSet.new.Goals as goal

pub open_actors-requires-clause-enough : goal.open_actors-requires-clause-enough
open_actors-requires-clause-enough g c = enough_for c.args.scripts _ _ c.into_vec.ensures c.requires.whole

pub invariant_of-result : goal.invariant_of-result
invariant_of-result g c =
    actor_set_is _ c.args.queues.now c.args.pictures c.args.scripts c.args.stock.buffers c.in_ok-actors.actors.items c.in_ok-queues.queues.items c.new-desk.result c.requires.scene c.requires.whole
    (subst (λ (scripts : List ActorScript). OpensActors {B = g.row.B.Denot} g.B.TableName.table scripts c.args.stock.buffers c.in_ok-actors.actors.items) c.into_vec.ensures c.in_ok-actors.ensures) c.in_ok-queues.ensures
    (ap (λ (desk : PlainOf g.row.B.Denot). desk.queues) c.new-desk.ensures) (ap (λ (desk : PlainOf g.row.B.Denot). desk.arrivals) c.new-desk.ensures ∙ c.in_ok-new.ensures)

pub returns : goal.returns
returns g c =
    actor_set_opens _ c.args.queues.now c.args.pictures c.args.scripts c.args.stock.buffers c.in_ok-actors.actors.items c.in_ok-queues.queues.items c.new-desk.result c.requires.scene c.requires.whole
    (subst (λ (scripts : List ActorScript). OpensActors {B = g.row.B.Denot} g.B.TableName.table scripts c.args.stock.buffers c.in_ok-actors.actors.items) c.into_vec.ensures c.in_ok-actors.ensures) c.in_ok-queues.ensures
    (ap (λ (desk : PlainOf g.row.B.Denot). desk.queues) c.new-desk.ensures) (ap (λ (desk : PlainOf g.row.B.Denot). desk.arrivals) c.new-desk.ensures ∙ c.in_ok-new.ensures)
    c.args.seat (ap (λ (desk : PlainOf g.row.B.Denot). desk.times.knows) c.new-desk.ensures ∙ c.in_ok-table.ensures.first) (ap (λ (desk : PlainOf g.row.B.Denot). desk.turns) c.new-desk.ensures)
    (ap (λ (desk : PlainOf g.row.B.Denot). desk.tells) c.new-desk.ensures)
