use Rattle.std.proofs.Common.{◌∙◌, refl, subst, None}
use Rattle.sf_slots.specs.declared.calls.PlainCall.TheVariants as plain
use Rattle.sf_slots.specs.declared.calls.PlainReply.TheVariants as reply
use Rattle.sf_slots.specs.declared.calls.ReadToken.{ReadToken}
use Rattle.sf_slots.specs.Tells.{Continues}
use Rattle.sf_surface.specs.declared.call.Gives.TheVariants as gives
use Rattle.sf_surface.specs.declared.call.QCall.TheVariants as call
use Rattle.sf_surface.specs.Hands.{done_reply}
use Rattle.sf_surface.proofs.SaidLemmas.{read_said, read_same}
use Rattle.sf_surface.proofs.ConsumerLemmas.{detach_untaken, detaches_read, reads}
use Rattle.sf_surface.proofs.DoesLemmas.{refuses}
use Rattle.sf_surface.proofs.consuming.detach_read.Goals as goal

pub returns-then-not-has_buffer : goal.returns-then-not-has_buffer
returns-then-not-has_buffer g c =
    let said = read_said c.args.lease c.read_said-said.result.slot c.read_said-said.result.frame c.read_said-said.result.held in
    let same = read_same c.args.queue c.args.slots.now.number c.args.lease c.read_said-said.result.slot c.read_said-said.result.frame c.read_said-said.result.held c.read_said-said.ensures.slot c.read_said-said.ensures.frame c.read_said-said.ensures.held c.requires.number in
    detach_untaken g.B.TableName.table c.args.slots.now c.args.by c.args.lease said c.untaken_refusal-cause.result c.refused.result same (c.if-not-has_buffer.ensures.other refl) c.untaken_refusal-cause.ensures c.refused.ensures

pub returns-in-Ok : goal.returns-in-Ok
returns-in-Ok g c =
    let said = read_said c.args.lease c.read_said-said.result.slot c.read_said-said.result.frame c.read_said-said.result.held in
    let same = read_same c.args.queue c.args.slots.now.number c.args.lease c.read_said-said.result.slot c.read_said-said.result.frame c.read_said-said.result.held c.read_said-said.ensures.slot c.read_said-said.ensures.frame c.read_said-said.ensures.held c.requires.number in
    let there = c.if-not-has_buffer.ensures.there refl in
    let is = c.gives.ensures ∙ (λ i. done_reply {B = g.row.B.Denot} (c.none.ensures i) (gives.Free (c.loosened.ensures i)) None None) in
    detaches_read g.B.TableName.table c.args.slots.now c.detach_read.new.q c.args.by c.args.lease said c.gives.result c.requires.sound same c.in-Ok.ensures.refusal c.in-Ok.ensures.done (c.in-Ok.ensures.history c.args.by said (reads c.args.slots.now said there)) is

pub returns-in-Err : goal.returns-in-Err
returns-in-Err g c =
    let said = read_said c.args.lease c.read_said-said.result.slot c.read_said-said.result.frame c.read_said-said.result.held in
    let same = read_same c.args.queue c.args.slots.now.number c.args.lease c.read_said-said.result.slot c.read_said-said.result.frame c.read_said-said.result.held c.read_said-said.ensures.slot c.read_said-said.ensures.frame c.read_said-said.ensures.held c.requires.number in
    let there = c.if-not-has_buffer.ensures.there refl in
    refuses g.B.TableName.table c.args.slots.now c.detach_read.new.q c.args.by (call.DetachRead c.args.lease) c.in-Err.cause c.refused-in-Err.result c.in-Err.ensures.unchanged
    (subst (λ (t : ReadToken). Continues c.args.slots.now c.detach_read.new.q c.args.by (plain.DetachRead t) (reply.Refused c.in-Err.cause)) same (c.in-Err.ensures.history c.args.by said (reads c.args.slots.now said there))) c.refused-in-Err.ensures
