-- What cancelling and detaching a lent buffer do to the queue.
use Rattle.std.proofs.Common.{◌≡◌, ◌<◌, true, false, not, [], ◌∷◌, ap, ◌∙◌, sym, refl, subst, Some, None}
use Rattle.atomic_table.specs.Seated.{TableId}
use Rattle.sf_base.specs.Fences.{Fence, no_points}
use Rattle.sf_base.specs.declared.ids.ActorId.{ActorId}
use Rattle.sf_base.specs.declared.status.QStatus.{QStatus}
use Rattle.sf_base.specs.declared.status.QStatus.TheVariants.{BadValue}
use Rattle.sf_slots.specs.declared.calls.PlainCall.TheVariants as plain
use Rattle.sf_slots.specs.declared.calls.PlainReply.TheVariants as reply
use Rattle.sf_slots.specs.declared.calls.WriteToken.{WriteToken}
use Rattle.sf_slots.specs.declared.slot.Held.{Held}
use Rattle.sf_slots.specs.Told.{slot_at}
use Rattle.sf_slots.specs.Queue.{Queue, IsSound, told_of, slot_in, returned, cleared}
use Rattle.sf_slots.specs.Replies.{refusal_of, is_producer, is_lent, is_buffer}
use Rattle.sf_slots.specs.Tells.{Continues}
use Rattle.sf_slots.proofs.HistoryGoesOn.{Continues-refused, lent_is_out, lent_there, own_unmet}
use Rattle.sf_queue.specs.Leases as write
use Rattle.sf_surface.specs.declared.call.Gives.TheVariants as gives
use Rattle.sf_surface.specs.declared.call.QCall.TheVariants as call
use Rattle.sf_surface.specs.declared.call.QReply.{QReply}
use Rattle.sf_surface.specs.Calls.{write_token}
use Rattle.sf_surface.specs.Hands.{done_reply, refused_reply}
use Rattle.sf_surface.specs.Inside.{unlent_refusal}
use Rattle.sf_surface.specs.Histories.{Left, left_by}
use Rattle.sf_surface.specs.Objects.{Does, IsFitItem}
use Rattle.sf_surface.specs.Tokens.{IsRightOf, Right, WriteLeaseOf, ending_drawn, turn_after}
use Rattle.sf_surface.proofs.DoesLemmas.{moves, moves_only, refuses}
use Rattle.sf_surface.proofs.FitLemmas.{IsFit-returned, cleared_keeps, sound_queued}
use Rattle.sf_surface.proofs.StoredLemmas.{named_itself, puts_back}
use Rattle.sf_base.specs.declared.ids.SlotId.{SlotId}
use Rattle.sf_calls.specs.Histories.{entry}
use Rattle.std.specs.Prelude.{not}
use Rattle.sf_slots.specs.declared.slot.SlotState.TheVariants.{Dequeued}
use Rattle.sf_surface.proofs.LeaseLemmas.{first_unlent, meant_is, unlent}

module _ {B : Type 0} (table : TableId) where
  pub cancel_unlent : (q : Queue Right) (by : ActorId) (lease : WriteLeaseOf) (fence : Fence) (said : WriteToken) (cause : QStatus) (answer : QReply B) → said ≡ write_token q.number lease → IsSound q → (said.slot.0 < 64 → is_buffer (slot_in q said.slot.0).held said.held ≡ false) → cause ≡ unlent_refusal q.settings by → answer ≡ refused_reply cause (call.Cancel lease fence) → Does table q q by (call.Cancel lease fence) answer
  cancel_unlent q by lease fence said cause answer same sound other causes is =
      let met : refusal_of (told_of q) by (plain.Cancel said fence) ≡ Some cause = first_unlent q.settings.abandoned (is_producer q.settings.connected by) (is_lent (told_of q) said.slot said.held) [] (unlent q said sound other) ∙ ap (λ (c : QStatus). Some c) (sym causes) in
      refuses table q q by (call.Cancel lease fence) cause answer refl
      (subst (λ (t : WriteToken). Continues q q by (plain.Cancel t fence) (reply.Refused cause)) same (Continues-refused q by (plain.Cancel said fence) cause met)) is

  -- a lease goes back
  pub cancels : (q after : Queue Right) (by : ActorId) (lease : WriteLeaseOf) (fence : Fence) (said : WriteToken) (answer : QReply B) → said ≡ write_token q.number lease → IsSound q → (slot_in q said.slot.0).held ≡ Some said.held → IsRightOf table lease.held (turn_after lease.work) → refusal_of (told_of q) by (write.lent_call false (write.lease_of (told_of q) said.slot said.held.number)) ≡ None → after ≡ returned q said.slot.0 (turn_after lease.work) fence → Continues q after by (plain.Cancel said fence) reply.Done → answer ≡ done_reply [] gives.Nothing (ending_drawn lease.work) None → Does table q after by (call.Cancel lease fence) answer
  cancels q after by lease fence said answer same sound there right none left goes is =
      let turn : Right = turn_after lease.work in
      let held_from : said.held ≡ lease.held = ap (λ (t : WriteToken). t.held) same in
      let fits : (buffer : Held) → (slot_in q said.slot.0).held ≡ Some buffer → IsRightOf table buffer turn = λ buffer here.
      let both : Some said.held ≡ Some buffer = sym there ∙ here in
      subst (λ (h : Held). IsRightOf table h turn) (sym held_from ∙ cc (both)) right in
      let meant : WriteToken = write.lease_of (told_of q) said.slot said.held.number in
      let lent_out : (slot_in q said.slot.0).state ≡ Dequeued = lent_there (told_of q) said.slot meant.held [] (own_unmet (told_of q) by (plain.Cancel meant no_points) none) in
      let named : said.slot ≡ lease.slot = named_itself q lease.queue lease.slot said.slot said.held sound (ap (λ (t : WriteToken). t.slot) same) there in
      let own : Left = record { slot = lease.slot.0; held = lease.held; turn = turn } in
      moves table q after (returned q said.slot.0 turn fence) by (call.Cancel lease fence) reply.Done answer left
      (record { number = refl; width = refl; height = refl })
      (IsFit-returned (λ s held right. IsRightOf table held right) (IsFitItem table) q said.slot.0 turn fence fits)
      (subst (λ (t : WriteToken). Continues q after by (plain.Cancel t fence) reply.Done) same goes)
      is (λ log stored. tt)
      (λ log step stored. puts_back q log (entry by.0 (step, call.Cancel lease fence) answer) own said.slot.0 said.held fence sound there (ap (λ (s : SlotId). s.0) named) held_from
      (lent_is_out (slot_in q said.slot.0).state lent_out) (ap (λ (r : QReply B). left_by (call.Cancel lease fence) r.gives) is) stored)

  -- a lease whose buffer is not there
  pub detach_unlent : (q : Queue Right) (by : ActorId) (lease : WriteLeaseOf) (said : WriteToken) (cause : QStatus) (answer : QReply B) → said ≡ write_token q.number lease → IsSound q → (said.slot.0 < 64 → is_buffer (slot_in q said.slot.0).held said.held ≡ false) → cause ≡ unlent_refusal q.settings by → answer ≡ refused_reply cause (call.Detach lease) → Does table q q by (call.Detach lease) answer
  detach_unlent q by lease said cause answer same sound other causes is =
      let met : refusal_of (told_of q) by (plain.Detach said) ≡ Some cause =
      first_unlent q.settings.abandoned (is_producer q.settings.connected by) (is_lent (told_of q) said.slot said.held) ((not (slot_at (told_of q) said.slot.0).requested, BadValue) ∷ []) (unlent q said sound other) ∙ ap (λ (c : QStatus). Some c) (sym causes) in
      refuses table q q by (call.Detach lease) cause answer refl
      (subst (λ (t : WriteToken). Continues q q by (plain.Detach t) (reply.Refused cause)) same (Continues-refused q by (plain.Detach said) cause met)) is

  -- a detach that the queue itself refuses
  pub detach_refused : (q : Queue Right) (by : ActorId) (lease : WriteLeaseOf) (said : WriteToken) (cause : QStatus) (answer : QReply B) → said ≡ write_token q.number lease → (slot_in q said.slot.0).held ≡ Some said.held → Some cause ≡ refusal_of (told_of q) by (write.lent_call true (write.lease_of (told_of q) said.slot said.held.number)) → answer ≡ refused_reply cause (call.Detach lease) → Does table q q by (call.Detach lease) answer
  detach_refused q by lease said cause answer same there met is =
      let asked : refusal_of (told_of q) by (plain.Detach said) ≡ Some cause =
      ap (λ (h : Held). refusal_of (told_of q) by (plain.Detach (record { slot = said.slot; held = h; requested = false; fence = no_points; drawn = false }))) (sym (meant_is q said there)) ∙ sym met in
      refuses table q q by (call.Detach lease) cause answer refl
      (subst (λ (t : WriteToken). Continues q q by (plain.Detach t) (reply.Refused cause)) same (Continues-refused q by (plain.Detach said) cause asked)) is

  -- a lent buffer goes out of the queue
  pub detaches : (q after : Queue Right) (by : ActorId) (lease : WriteLeaseOf) (said : WriteToken) (answer : QReply B) → said ≡ write_token q.number lease → IsSound q → refusal_of (told_of q) by (write.lent_call true (write.lease_of (told_of q) said.slot said.held.number)) ≡ None → after ≡ cleared q said.slot.0 → Continues q after by (plain.Detach said) reply.Done → answer ≡ done_reply [] (gives.Free (record { held = lease.held; turn = turn_after lease.work })) (ending_drawn lease.work) None → Does table q after by (call.Detach lease) answer
  detaches q after by lease said answer same sound none left goes is =
      let meant : WriteToken = write.lease_of (told_of q) said.slot said.held.number in
      let is_lent_out : (slot_in q said.slot.0).state ≡ Dequeued =
      lent_there (told_of q) said.slot meant.held ((not (slot_at (told_of q) said.slot.0).requested, BadValue) ∷ []) (own_unmet (told_of q) by (plain.Detach meant) none) in
      moves_only table q after (cleared q said.slot.0) by (call.Detach lease) reply.Done answer left
      (record { number = refl; width = refl; height = refl })
      (λ P F of_item rights. (cleared_keeps P F q said.slot.0 (λ queued. cc (is_lent_out, queued)) (sound_queued q sound) rights).1)
      (subst (λ (t : WriteToken). Continues q after by (plain.Detach t) reply.Done) same goes)
      is (λ log stored. tt) (ap (λ (r : QReply B). left_by (call.Detach lease) r.gives) is)

-- a cancel that the queue itself refuses
pub cancel_refused : {B : Type 0} (table : TableId) (q : Queue Right) (by : ActorId) (lease : WriteLeaseOf) (fence : Fence) (said : WriteToken) (cause : QStatus) (answer : QReply B) → said ≡ write_token q.number lease → (slot_in q said.slot.0).held ≡ Some said.held → Some cause ≡ refusal_of (told_of q) by (write.lent_call false (write.lease_of (told_of q) said.slot said.held.number)) → answer ≡ refused_reply cause (call.Cancel lease fence) → Does table q q by (call.Cancel lease fence) answer
cancel_refused table q by lease fence said cause answer same there met is =
    let asked : refusal_of (told_of q) by (plain.Cancel said fence) ≡ Some cause =
    ap (λ (h : Held). refusal_of (told_of q) by (plain.Cancel (record { slot = said.slot; held = h; requested = false; fence = no_points; drawn = false }) no_points)) (sym (meant_is q said there)) ∙ sym met in
    refuses table q q by (call.Cancel lease fence) cause answer refl
    (subst (λ (t : WriteToken). Continues q q by (plain.Cancel t fence) (reply.Refused cause)) same (Continues-refused q by (plain.Cancel said fence) cause asked)) is
