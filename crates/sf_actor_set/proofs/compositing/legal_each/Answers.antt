use Rattle.std.proofs.Common.{get_or, subst, take}
use Rattle.std.specs.List.{All}
use Rattle.std.proofs.lemmas.List.{take_more}
use Rattle.std.proofs.lemmas.List.Elements.{All-push}
use Rattle.sf_commit.specs.sf_calls.Histories.{IsLegal}
use Rattle.sf_actor_steps.specs.sf_surface.Histories.{Answers}
use Rattle.sf_actor_steps.specs.sf_surface.Objects.{ObjectOf, mark_of}
use Rattle.sf_actor_set.proofs.compositing.legal_each.Goals as goal

pub loop-object-preserved : goal.loop-object-preserved
loop-object-preserved g c =
    let queues = c.args.queues.now in
    let i = c.loop-object.object-index in
    let object = c.object-item.result in
    let legal = subst (λ (o : ObjectOf g.row.B.Denot). IsLegal (Answers (mark_of o)) o.calls) c.object-item.is c.legal.ensures in
    rw (take_more queues i object c.loop-object-test.true)
    (All-push (λ (o : ObjectOf g.row.B.Denot). IsLegal (Answers (mark_of o)) o.calls) (take i queues) (get_or queues i object) c.loop-object.invariant legal)
