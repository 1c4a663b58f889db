use Rattle.std.proofs.Common.{Bool, ap, ◌∙◌, subst, sym}
use Rattle.sf_actor.specs.sf_surface.declared.call.QCall.TheVariants as call
use Rattle.sf_actor.specs.sf_surface.Tokens.{ReadLeaseOf, WriteLeaseOf}
use Rattle.sf_actor_steps.specs.Forming.{FormsCall, detach_step, moving}
use Rattle.sf_actor_steps.proofs.bindings.Bindings.leaving_call.Goals as goal

pub returns-then-reads-clause-forms : goal.returns-then-reads-clause-forms
returns-then-reads-clause-forms g c =
    let lease = c.take_frame-lease.result in
    let is = c.moving.ensures ∙ ap (λ (l : ReadLeaseOf). moving {B = g.row.B.Denot} l.queue c.args.names.from c.args.names.to l.held (call.DetachRead lease)) c.lease.view_is in
    λ pictures.
    subst (λ (r : Bool). FormsCall pictures (detach_step r c.args.names.from c.args.names.to) c.args.self.now c.take_frame-lease.new.self c.moving.result) (sym c.if-reads.true)
    (lease, c.take_frame-lease.ensures, is)

pub returns-else-reads-clause-forms : goal.returns-else-reads-clause-forms
returns-else-reads-clause-forms g c =
    let lease = c.take_lent-lease.result in
    let is = c.moving-else-reads.ensures ∙ ap (λ (l : WriteLeaseOf). moving {B = g.row.B.Denot} l.queue c.args.names.from c.args.names.to l.held (call.Detach lease)) c.lease-else-reads.view_is in
    λ pictures.
    subst (λ (r : Bool). FormsCall pictures (detach_step r c.args.names.from c.args.names.to) c.args.self.now c.take_lent-lease.new.self c.moving-else-reads.result) (sym c.if-reads.false)
    (lease, c.take_lent-lease.ensures, is)
