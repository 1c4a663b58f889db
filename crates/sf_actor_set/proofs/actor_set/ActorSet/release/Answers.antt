use Rattle.std.proofs.Common.{subst}
use Rattle.std.specs.Prelude.{IfErr, IfOk}
use Rattle.sf_actor_steps.specs.sf_actor.Desks.{IsAsBefore}
use Rattle.sf_actor_steps.specs.sf_actor.Plain.{PlainOf, taken_in, view_of}
use Rattle.sf_actor_set.specs.ActorSets.{ActorSetOf}
use Rattle.sf_actor_set.specs.Compositing.{GivesFrameBack}
use Rattle.sf_actor_set.proofs.CompositingLemmas.{actor_set_goes_on, only_desk}
use Rattle.sf_actor_set.proofs.actor_set.ActorSet.release.Goals as goal

pub invariant_of-self : goal.invariant_of-self
invariant_of-self g c = actor_set_goes_on _ _ _ _ c.self.inside.desk c.release_at.new.desk c.self.inside.is_spent c.release_at.ensures.goes c.self.invariant

pub returns-clause-only : goal.returns-clause-only
returns-clause-only g c = only_desk _ _ _ _ (λ (desk : PlainOf g.row.B.Denot). taken_in desk.arrivals) c.self.inside.desk c.release_at.new.desk c.self.inside.is_spent c.self.view_is c.release_at.ensures.goes c.self.invariant

pub returns-clause-as_before : goal.returns-clause-as_before
returns-clause-as_before g c =
    subst (λ (x : ActorSetOf g.row.B.Denot). IfErr c.release_at.result (λ e. IsAsBefore (view_of x.desk) (view_of c.release_at.new.desk))) c.self.view_is c.release_at.ensures.as_before

pub returns-clause-released : goal.returns-clause-released
returns-clause-released g c =
    subst (λ (x : ActorSetOf g.row.B.Denot). IfOk c.release_at.result (λ done. GivesFrameBack x.desk c.release_at.new.desk c.args.vsync c.args.release)) c.self.view_is c.release_at.ensures.released
