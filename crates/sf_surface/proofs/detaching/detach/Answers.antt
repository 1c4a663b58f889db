use Rattle.std.proofs.Common.{refl, subst, sym, None}
use Rattle.sf_slots.specs.declared.slot.Held.{Held}
use Rattle.sf_surface.specs.declared.call.Gives.TheVariants as gives
use Rattle.sf_surface.specs.Hands.{done_reply}
use Rattle.sf_surface.specs.Tokens.{IsRightOf}
use Rattle.sf_surface.proofs.SaidLemmas.{write_said, write_same}
use Rattle.sf_surface.proofs.LeaseLemmas.{says}
use Rattle.sf_surface.proofs.GiveBackLemmas.{detach_refused, detach_unlent, detaches}
use Rattle.sf_surface.proofs.detaching.detach.Goals as goal

pub returns-then-not-has_buffer-clause-done : goal.returns-then-not-has_buffer-clause-done
returns-then-not-has_buffer-clause-done g c =
    let said = write_said c.args.lease c.said_of-said.result.slot c.said_of-said.result.held in
    let same = write_same c.args.context.queue c.args.slots.now.number c.args.lease c.said_of-said.result.slot c.said_of-said.result.held c.said_of-said.ensures.slot c.said_of-said.ensures.held c.requires.number in
    detach_unlent g.B.TableName.table c.args.slots.now c.args.context.by c.args.lease said c.unlent_refusal-cause.result c.refused.result same c.unlent_refusal-cause.ensures.sound (c.if-not-has_buffer.ensures.other refl) c.unlent_refusal-cause.ensures.cause c.refused.ensures

pub returns-in-Some-clause-done : goal.returns-in-Some-clause-done
returns-in-Some-clause-done g c =
    let said = write_said c.args.lease c.said_of-said.result.slot c.said_of-said.result.held in
    let same = write_same c.args.context.queue c.args.slots.now.number c.args.lease c.said_of-said.result.slot c.said_of-said.result.held c.said_of-said.ensures.slot c.said_of-said.ensures.held c.requires.number in
    let there = c.if-not-has_buffer.ensures.there refl in
    detach_refused g.B.TableName.table c.args.slots.now c.args.context.by c.args.lease said c.in-Some.cause c.refused-in-Some.result same there c.in-Some.ensures c.refused-in-Some.ensures

pub returns-in-Ok-clause-done : goal.returns-in-Ok-clause-done
returns-in-Ok-clause-done g c =
    let q = c.args.slots.now in
    let said = write_said c.args.lease c.said_of-said.result.slot c.said_of-said.result.held in
    let same = write_same c.args.context.queue c.args.slots.now.number c.args.lease c.said_of-said.result.slot c.said_of-said.result.held c.said_of-said.ensures.slot c.said_of-said.ensures.held c.requires.number in
    let there = c.if-not-has_buffer.ensures.there refl in
    detaches g.B.TableName.table q c.detach_allowed.new.q c.args.context.by c.args.lease said _ same c.requires.sound (sym c.in_default.ensures) c.detach_allowed.ensures.done (c.detach_allowed.ensures.history said (says q said there))
    (λ i. done_reply {B = g.row.B.Denot} (c.none.ensures i) (gives.Free (record { held = c.in-Ok.ensures.held i; turn = c.in-Ok.ensures.heir i })) (c.in-Ok.ensures.ends i) None)

pub invariant_of-result : goal.invariant_of-result
invariant_of-result g c = subst (λ (h : Held). IsRightOf g.B.TableName.table h c.in-Ok.field-0.heir) (sym c.in-Ok.ensures.held) c.in-Ok.ensures.right
