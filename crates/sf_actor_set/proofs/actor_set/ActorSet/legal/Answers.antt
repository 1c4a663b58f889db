use Rattle.std.proofs.Common.{◌∙◌, List, ap, map, subst}
use Rattle.sf_commit.specs.sf_calls.Histories.{IsLegal}
use Rattle.sf_actor_steps.specs.sf_surface.Histories.{Answers}
use Rattle.sf_actor_steps.specs.sf_surface.Objects.{ObjectOf, mark_of}
use Rattle.sf_actor_steps.specs.sf_actor.Desks.{mark_among}
use Rattle.sf_actor_steps.specs.sf_actor.Plain.{calls_among}
use Rattle.sf_actor_set.specs.ActorSets.{ActorSetOf}
use Rattle.sf_actor_set.proofs.CompositingLemmas.{legal_among}
use Rattle.sf_actor_set.proofs.actor_set.ActorSet.legal.Goals as goal

pub returns : goal.returns
returns g c = λ queue.
    subst (λ (objects : List (ObjectOf g.row.B.Denot)). IsLegal (Answers (mark_among (map mark_of objects) queue)) (calls_among objects queue))
    (c.deref.ensures.value ∙ (λ i. (c.self-inside.view_is i).desk.queues) ∙ ap (λ (x : ActorSetOf g.row.B.Denot). x.desk.queues) c.self.view_is)
    (legal_among c.deref.result.now queue c.legal_each.ensures)
