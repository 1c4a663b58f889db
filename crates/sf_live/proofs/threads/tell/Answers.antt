use Rattle.std.proofs.Common.{◌∙◌, List, map, subst}
use Rattle.sf_calls.specs.Histories.{IsLegal}
use Rattle.sf_live_compositor.specs.sf_surface.Histories.{Answers}
use Rattle.sf_live_compositor.specs.sf_surface.Objects.{ObjectOf, mark_of}
use Rattle.sf_live_compositor.specs.sf_actor.Desks.{mark_among}
use Rattle.sf_live_compositor.specs.sf_actor.Plain.{calls_among}
use Rattle.sf_live_compositor.proofs.sf_actor_set_lemmas.CompositingLemmas.{legal_among}
use Rattle.sf_live.proofs.threads.tell.Goals as goal

pub returns-clause-legal : goal.returns-clause-legal
returns-clause-legal g c = λ queue.
    subst (λ (objects : List (ObjectOf g.row.B.Denot)). IsLegal (Answers (mark_among (map mark_of objects) queue)) (calls_among objects queue)) (c.deref.ensures.value ∙ (λ i. (c.desk.view_is i).queues))
    (legal_among c.deref.result.now queue c.legal_each.ensures)
