use Rattle.std.proofs.Common.{◌≡◌, ◌∙◌, ap, subst, true, [], ◌∷◌, None}
use Rattle.sf_base.specs.declared.ids.QueueId.{QueueId}
use Rattle.sf_slots.specs.declared.calls.PlainCall.TheVariants as plain
use Rattle.sf_slots.specs.declared.calls.PlainReply.TheVariants as reply
use Rattle.sf_slots.specs.Queue.{lent, seated}
use Rattle.sf_slots.specs.Tells.{Continues}
use Rattle.sf_surface.specs.declared.call.Gives.TheVariants as gives
use Rattle.sf_surface.specs.declared.call.QCall.TheVariants as call
use Rattle.sf_surface.specs.Hands.{attached_lease, done_reply}
use Rattle.sf_surface.specs.Tokens.{LooseOf}
use Rattle.sf_surface.proofs.DoesLemmas.{refuses}
use Rattle.sf_surface.proofs.LendLemmas.{attaches}
use Rattle.sf_surface.proofs.LooseLemmas.{right_sized}
use Rattle.sf_surface.proofs.attaching.attach.Goals as goal

pub attach-requires-clause-wide : goal.attach-requires-clause-wide
attach-requires-clause-wide g c = (right_sized g.B.TableName.table c.loose.inside.held c.loose.inside.turn c.loose.invariant).wide

pub attach-requires-clause-narrow : goal.attach-requires-clause-narrow
attach-requires-clause-narrow g c = (right_sized g.B.TableName.table c.loose.inside.held c.loose.inside.turn c.loose.invariant).narrow

pub attach-requires-clause-high : goal.attach-requires-clause-high
attach-requires-clause-high g c = (right_sized g.B.TableName.table c.loose.inside.held c.loose.inside.turn c.loose.invariant).high

pub attach-requires-clause-low : goal.attach-requires-clause-low
attach-requires-clause-low g c = (right_sized g.B.TableName.table c.loose.inside.held c.loose.inside.turn c.loose.invariant).low

pub returns-in-Ok : goal.returns-in-Ok
returns-in-Ok g c =
    let q = c.args.slots.now in
    let new = c.attach.new.q in
    let slot = c.in-Ok.slot in
    let held = c.in-Ok.held in
    let left = subst (λ (l : LooseOf). new ≡ seated (lent q slot.0) slot.0 l.held.width l.held.height true) c.loose.view_is c.in-Ok.ensures.done in
    let goes = subst (λ (l : LooseOf). Continues q new c.args.by (plain.Attach l.held) (reply.Attached slot held)) c.loose.view_is (c.in-Ok.ensures.history c.loose.inside.held.number) in
    let numbered = ap (λ (n : QueueId). done_reply {B = g.row.B.Denot} (slot.0 ∷ held.number ∷ []) (gives.Write (attached_lease n slot held c.args.loose)) None None) c.requires.number in
    attaches g.B.TableName.table q new c.args.by c.args.loose slot held c.gives.result c.requires.sound c.in-Ok.ensures.slot left goes
    (c.gives.ensures ∙ (λ i. done_reply {B = g.row.B.Denot} (c.two.ensures i) (gives.Write (c.attached.ensures i)) None None) ∙ numbered)

pub returns-in-Err : goal.returns-in-Err
returns-in-Err g c =
    let q = c.args.slots.now in
    let new = c.attach.new.q in
    let goes = subst (λ (l : LooseOf). Continues q new c.args.by (plain.Attach l.held) (reply.Refused c.in-Err.cause)) c.loose.view_is (c.in-Err.ensures.history c.loose.inside.held.number) in
    refuses g.B.TableName.table q new c.args.by (call.Attach c.args.loose) c.in-Err.cause c.refused.result c.in-Err.ensures.unchanged goes c.refused.ensures
