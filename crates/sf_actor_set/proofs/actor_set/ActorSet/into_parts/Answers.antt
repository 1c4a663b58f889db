use Rattle.std.proofs.Common.{subst}
use Rattle.sf_actor_set.specs.ActorSets.{ActorSetOf, IsActorSet}
use Rattle.sf_actor_set.proofs.actor_set.ActorSet.into_parts.Goals as goal

pub returns-clause-kept : goal.returns-clause-kept
returns-clause-kept g c = subst (λ (x : ActorSetOf g.row.B.Denot). IsActorSet g.B.TableName.table x) c.self.view_is c.self.invariant
