use Rattle.sf_actor_steps.specs.sf_actor.Plain.{PlainOf, taken_in}
use Rattle.sf_actor_set.proofs.CompositingLemmas.{actor_set_goes_on, only_desk}
use Rattle.sf_actor_set.proofs.actor_set.ActorSet.see.Goals as goal

pub invariant_of-self : goal.invariant_of-self
invariant_of-self g c = actor_set_goes_on _ _ _ _ c.self.inside.desk c.see_at.new.desk c.self.inside.is_spent c.see_at.ensures.goes c.self.invariant

pub returns-clause-only : goal.returns-clause-only
returns-clause-only g c = only_desk _ _ _ _ (λ (desk : PlainOf g.row.B.Denot). taken_in desk.arrivals) c.self.inside.desk c.see_at.new.desk c.self.inside.is_spent c.self.view_is c.see_at.ensures.goes c.self.invariant
