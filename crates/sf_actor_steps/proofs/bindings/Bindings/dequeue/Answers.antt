use Rattle.std.proofs.Common.{ℕ, ap, ◌∙◌}
use Rattle.sf_actor.specs.sf_surface.declared.call.QCall.TheVariants as call
use Rattle.sf_actor.specs.Scripts.{queue_of}
use Rattle.sf_actor_steps.specs.Forming.{named}
use Rattle.sf_actor_steps.specs.declared.tried.Tried.{Tried}
use Rattle.sf_actor_steps.proofs.FormLemmas.{dequeue_made}
use Rattle.sf_actor_steps.proofs.LeavingLemmas.{ok-map}
use Rattle.sf_actor_steps.proofs.bindings.Bindings.dequeue.Goals as goal

pub returns-clause-makes : goal.returns-clause-makes
returns-clause-makes g c =
    let permit = c.in_ok-permit.permit in
    let is = c.named.ensures ∙ ap (λ (s : ℕ × ℕ). named {B = g.row.B.Denot} (queue_of c.args.queue) c.args.name (call.Dequeue s.0 s.1 c.args.input.wait permit)) c.unwrap_or-width.ensures in
    ok-map _ _ c.ask.result
    (λ (came_to : Tried) tries. dequeue_made (g.D.Desk.home c.args.desk.now) c.args.step_number c.args.self.now c.take_permit.new.self c.ask.new.self c.named.result (g.D.Desk.view c.args.desk.now) (g.D.Desk.view c.ask.new.desk) came_to c.args.input.wait c.args.queue c.args.name c.args.input.size permit c.in_ok-permit.ensures is tries)
    c.ask.ensures.tries
