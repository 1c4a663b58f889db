use Rattle.std.proofs.Common.{◌≡◌, subst}
use Rattle.sf_actor_steps.specs.sf_actor.Plain.{PlainOf}
use Rattle.sf_actor_set.proofs.compositing.owns_at.Goals as goal

pub returns : goal.returns
returns g c = subst (λ (d : PlainOf g.row.B.Denot). d.turns.table ≡ g.B.TableName.table) c.desk.view_is c.desk.invariant.own_turns
