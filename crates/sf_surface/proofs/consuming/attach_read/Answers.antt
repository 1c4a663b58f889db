use Rattle.std.proofs.Common.{◌∙◌, ap, false, subst, [], ◌∷◌, None}
use Rattle.sf_base.specs.declared.ids.QueueId.{QueueId}
use Rattle.sf_slots.specs.declared.calls.PlainCall.TheVariants as plain
use Rattle.sf_slots.specs.declared.calls.PlainReply.TheVariants as reply
use Rattle.sf_slots.specs.Queue.{seated, taken}
use Rattle.sf_slots.specs.Tells.{Continues}
use Rattle.sf_surface.specs.declared.call.Gives.TheVariants as gives
use Rattle.sf_surface.specs.declared.call.QCall.TheVariants as call
use Rattle.sf_surface.specs.Hands.{done_reply, own_lease}
use Rattle.sf_surface.specs.Tokens.{LooseOf}
use Rattle.sf_surface.proofs.ConsumerLemmas.{attaches_read}
use Rattle.sf_surface.proofs.LooseLemmas.{right_sized}
use Rattle.sf_surface.proofs.DoesLemmas.{refuses}
use Rattle.sf_surface.proofs.consuming.attach_read.Goals as goal

pub attach_read-requires-clause-wide : goal.attach_read-requires-clause-wide
attach_read-requires-clause-wide g c = (right_sized g.B.TableName.table c.loose.inside.held c.loose.inside.turn c.loose.invariant).wide

pub attach_read-requires-clause-narrow : goal.attach_read-requires-clause-narrow
attach_read-requires-clause-narrow g c = (right_sized g.B.TableName.table c.loose.inside.held c.loose.inside.turn c.loose.invariant).narrow

pub attach_read-requires-clause-high : goal.attach_read-requires-clause-high
attach_read-requires-clause-high g c = (right_sized g.B.TableName.table c.loose.inside.held c.loose.inside.turn c.loose.invariant).high

pub attach_read-requires-clause-low : goal.attach_read-requires-clause-low
attach_read-requires-clause-low g c = (right_sized g.B.TableName.table c.loose.inside.held c.loose.inside.turn c.loose.invariant).low

pub returns-in-Ok : goal.returns-in-Ok
returns-in-Ok g c =
    let q = c.args.slots.now in
    let slot = c.in-Ok.slot in
    let held = c.in-Ok.held in
    let left = c.in-Ok.ensures.done ∙ ap (λ (l : LooseOf). seated (taken q slot.0) slot.0 l.held.width l.held.height false) c.loose.view_is in
    let goes = subst (λ (l : LooseOf). Continues q c.attach_read.new.q c.args.by (plain.AttachRead l.held) (reply.Attached slot held)) c.loose.view_is (c.in-Ok.ensures.history c.args.by c.loose.inside.held.number) in
    let numbered = ap (λ (n : QueueId). done_reply {B = g.row.B.Denot} (slot.0 ∷ []) (gives.Read (own_lease n slot held c.args.loose)) None None) c.requires.number in
    attaches_read g.B.TableName.table q c.attach_read.new.q c.args.by c.args.loose slot held c.gives.result c.requires.sound c.in-Ok.ensures.slot left goes (c.gives.ensures ∙ (λ i. done_reply {B = g.row.B.Denot} (c.one.ensures i) (gives.Read (c.owned.ensures i)) None None) ∙ numbered)

pub returns-in-Err : goal.returns-in-Err
returns-in-Err g c =
    let q = c.args.slots.now in
    let goes = subst (λ (l : LooseOf). Continues q c.attach_read.new.q c.args.by (plain.AttachRead l.held) (reply.Refused c.in-Err.cause)) c.loose.view_is (c.in-Err.ensures.history c.args.by c.loose.inside.held.number) in
    refuses g.B.TableName.table q c.attach_read.new.q c.args.by (call.AttachRead c.args.loose) c.in-Err.cause c.refused.result c.in-Err.ensures.unchanged goes c.refused.ensures
