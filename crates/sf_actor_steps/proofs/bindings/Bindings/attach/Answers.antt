use Rattle.std.proofs.Common.{ap, ◌∙◌}
use Rattle.sf_actor.specs.sf_surface.declared.call.QCall.{QCall}
use Rattle.sf_actor.specs.Scripts.{queue_of}
use Rattle.sf_actor_steps.specs.Forming.{joining}
use Rattle.sf_actor_steps.specs.declared.tried.Tried.{Tried}
use Rattle.sf_actor_steps.proofs.FormLemmas.{attach_made}
use Rattle.sf_actor_steps.proofs.LeavingLemmas.{ok-map}
use Rattle.sf_actor_steps.proofs.bindings.Bindings.attach.Goals as goal

pub returns-clause-makes : goal.returns-clause-makes
returns-clause-makes g c =
    let last = c.take_free-loose.result.0 in
    let loose = c.take_free-loose.result.1 in
    let is = c.joining-asking.ensures ∙ ap (λ (asked : QCall g.row.B.Denot). joining {B = g.row.B.Denot} (queue_of c.args.queue) c.args.names.from c.args.names.to last asked) c.attach_call-call.ensures in
    ok-map _ _ c.ask.result
    (λ (came_to : Tried) tries. attach_made (g.D.Desk.home c.args.desk.now) c.args.step_number c.args.self.now c.take_free-loose.new.self c.ask.new.self c.joining-asking.result (g.D.Desk.view c.args.desk.now) (g.D.Desk.view c.ask.new.desk) came_to c.args.reads c.args.queue c.args.names.from c.args.names.to last loose c.take_free-loose.ensures is tries)
    c.ask.ensures.tries
