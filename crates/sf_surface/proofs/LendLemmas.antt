-- What the calls that lend a buffer and make it known do to the queue.
use Rattle.std.proofs.Common.{◌≡◌, ℕ, ◌<◌, Bool, true, false, [], ◌∷◌, ap, ◌∙◌, sym, refl, subst, Some, None}
use Rattle.std.specs.Prelude.{if◌then◌else◌}
use Rattle.atomic_table.specs.Seated.{TableId}
use Rattle.sf_base.specs.Fences.{Fence, no_points}
use Rattle.sf_base.specs.declared.ids.ActorId.{ActorId}
use Rattle.sf_base.specs.declared.status.QStatus.{QStatus}
use Rattle.sf_turns.specs.sf_picture.declared.picture.Picture.{Picture}
use Rattle.sf_slots.specs.declared.calls.PlainCall.TheVariants as plain
use Rattle.sf_slots.specs.declared.calls.PlainReply.TheVariants as reply
use Rattle.sf_slots.specs.declared.calls.WriteToken.{WriteToken}
use Rattle.sf_slots.specs.declared.slot.Held.{Held}
use Rattle.sf_slots.specs.Told.{slot_for}
use Rattle.sf_slots.specs.Queue.{Queue, IsSound, told_of, slot_in, lent, seated, marked}
use Rattle.sf_slots.specs.Replies.{refusal_of, is_producer, is_lent, is_buffer, size_asked}
use Rattle.sf_slots.specs.Tells.{Continues}
use Rattle.sf_slots.proofs.HistoryGoesOn.{Continues-refused}
use Rattle.sf_queue.specs.declared.lending.Chosen.{Chosen}
use Rattle.sf_queue.specs.declared.lending.Dequeued.{Dequeued}
use Rattle.sf_queue.specs.Lending.{IsChosen, IsRenewed, IsReused}
use Rattle.sf_base.specs.declared.ids.SlotId.{SlotId}
use Rattle.sf_turns.specs.Views.{PermitView, first_turn}
use Rattle.sf_surface.specs.declared.call.Gives.TheVariants as gives
use Rattle.sf_surface.specs.declared.call.QCall.TheVariants as call
use Rattle.sf_surface.specs.declared.call.QReply.{QReply}
use Rattle.sf_surface.specs.declared.work.Work.TheVariants as work
use Rattle.sf_surface.specs.Calls.{write_token}
use Rattle.sf_surface.specs.Hands.{blank_of, done_reply, lent_reply, points_of, refused_reply, requested_lease, attached_lease}
use Rattle.sf_surface.specs.Histories.{FromLog, left_by}
use Rattle.sf_surface.specs.Inside.{IsNextSlot, sized_buffer, unlent_refusal}
use Rattle.sf_surface.specs.Objects.{Does}
use Rattle.sf_surface.specs.Tokens.{Right, WriteLeaseOf, LooseOf}
use Rattle.sf_surface.proofs.DoesLemmas.{moves_only, refuses}
use Rattle.sf_surface.proofs.FitLemmas.{IsFit-lent, IsFit-renewed, IsFit-marked}
use Rattle.sf_surface.proofs.FreeLemmas.{next_free}
use Rattle.sf_surface.proofs.LeaseLemmas.{first_unlent, unlent}

-- the fence of the slot that is next
pub next_fence : (q : Queue Right) (slot s : ℕ) (fence : Fence) → Some slot ≡ slot_for true (told_of q) → slot_for true (told_of q) ≡ Some s → fence ≡ (slot_in q slot).fence → fence ≡ no_points → (slot_in q s).fence ≡ no_points
next_fence q slot s fence chosen next is none =
    let both : Some slot ≡ Some s = chosen ∙ next in
    let same : slot ≡ s = cc (both) in
    ap (λ (n : ℕ). (slot_in q n).fence) (sym same) ∙ (sym is ∙ none)

-- the slot that was chosen is the next one
pub chosen_next : (q : Queue Right) (by : ActorId) (width height : ℕ) (chosen : Chosen) (s : ℕ) → IsChosen q by width height chosen → slot_for true (told_of q) ≡ Some s → IsNextSlot q s chosen.requested
chosen_next q by width height chosen s is next =
    let both : Some chosen.slot.0 ≡ Some s = sym is.slot.chosen ∙ next in
    let same : chosen.slot.0 ≡ s = cc (both) in
    subst (λ (n : ℕ). IsNextSlot q n chosen.requested) same (record { below = is.slot.below; free = is.slot.free; requested_is = is.requested })

module _ {B : Type 0} (table : TableId) where
  -- refusals of a lease whose buffer is not lent
  pub request_unlent : (q : Queue Right) (by : ActorId) (lease : WriteLeaseOf) (said : WriteToken) (cause : QStatus) (answer : QReply B) → said ≡ write_token q.number lease → IsSound q → (said.slot.0 < 64 → is_buffer (slot_in q said.slot.0).held said.held ≡ false) → cause ≡ unlent_refusal q.settings by → answer ≡ refused_reply cause (call.Request lease) → Does table q q by (call.Request lease) answer
  request_unlent q by lease said cause answer same sound other causes is =
      let met : refusal_of (told_of q) by (plain.Request said) ≡ Some cause = first_unlent q.settings.abandoned (is_producer q.settings.connected by) (is_lent (told_of q) said.slot said.held) [] (unlent q said sound other) ∙ ap (λ (c : QStatus). Some c) (sym causes) in
      refuses table q q by (call.Request lease) cause answer refl
      (subst (λ (t : WriteToken). Continues q q by (plain.Request t) (reply.Refused cause)) same (Continues-refused q by (plain.Request said) cause met)) is

  pub requests : (q after : Queue Right) (by : ActorId) (lease : WriteLeaseOf) (said : WriteToken) (answer : QReply B) → said ≡ write_token q.number lease → after ≡ marked q said.slot.0 → Continues q after by (plain.Request said) (reply.Requested said.held) → answer ≡ done_reply (lease.slot.0 ∷ lease.held.number ∷ lease.held.width ∷ lease.held.height ∷ []) (gives.Write (requested_lease lease)) None None → Does table q after by (call.Request lease) answer
  requests q after by lease said answer same left goes is =
      moves_only table q after (marked q said.slot.0) by (call.Request lease) (reply.Requested lease.held) answer left
      (record { number = refl; width = refl; height = refl }) (λ P F of_item rights. IsFit-marked P F q said.slot.0 rights)
      (subst (λ (t : WriteToken). Continues q after by (plain.Request t) (reply.Requested t.held)) same goes)
      is (λ log stored. subst (FromLog log (call.Request lease)) (sym is) tt) (ap (λ (r : QReply B). left_by (call.Request lease) r.gives) is)

  -- the slot's own buffer is lent
  pub lends_own : (q after : Queue Right) (by : ActorId) (width height : ℕ) (wait was : Bool) (permit : PermitView) (given : Dequeued Right) → IsNextSlot q given.slot.0 was → IsReused q after given → Continues q after by (plain.Dequeue width height wait) (reply.Dequeued given.slot given.held (if given.reallocated then false else (slot_in q given.slot.0).requested) given.reallocated given.fence) → Does {B = B} table q after by (call.Dequeue width height wait permit) (lent_reply q.number given (if given.reallocated then false else was) (Some permit))
  lends_own q after by width height wait was permit given next is goes =
      let requested : Bool = if given.reallocated then false else was in
      let kept : (if given.reallocated then false else (slot_in q given.slot.0).requested) ≡ requested = ap (λ (b : Bool). if given.reallocated then false else b) (sym next.requested_is) in
      let old : given.reallocated ≡ false = is.reallocated in
      moves_only table q after (lent q given.slot.0) by (call.Dequeue width height wait permit) (reply.Dequeued given.slot given.held requested given.reallocated given.fence) (lent_reply q.number given requested (Some permit)) is.after
      (record { number = refl; width = refl; height = refl }) (λ P F of_item rights. IsFit-lent P F q given.slot.0 rights)
      (subst (λ (b : Bool). Continues q after by (plain.Dequeue width height wait) (reply.Dequeued given.slot given.held b given.reallocated given.fence)) kept goes)
      (rw old (given.right, refl))
      (λ log stored. stored.slots given.slot.0 next.below given.held given.right is.held is.right) refl

  -- a new buffer is lent
  pub lends_new : (q after : Queue Right) (by : ActorId) (width height : ℕ) (wait was : Bool) (permit : PermitView) (fresh : Right) (given : Dequeued Right) → IsSound q → IsNextSlot q given.slot.0 was → IsRenewed q after (size_asked q.settings width height) fresh given → fresh ≡ first_turn permit (blank_of (sized_buffer (size_asked q.settings width height).0 (size_asked q.settings width height).1)) → Continues q after by (plain.Dequeue width height wait) (reply.Dequeued given.slot given.held (if given.reallocated then false else (slot_in q given.slot.0).requested) given.reallocated given.fence) → Does {B = B} table q after by (call.Dequeue width height wait permit) (lent_reply q.number given (if given.reallocated then false else was) None)
  lends_new q after by width height wait was permit fresh given sound next is opened goes =
      let size : ℕ × ℕ = size_asked q.settings width height in
      let requested : Bool = if given.reallocated then false else was in
      let kept : (if given.reallocated then false else (slot_in q given.slot.0).requested) ≡ requested = ap (λ (b : Bool). if given.reallocated then false else b) (sym next.requested_is) in
      let new : given.reallocated ≡ true = is.reallocated in
      let blank : blank_of given.held ≡ blank_of (sized_buffer size.0 size.1) = ap blank_of is.held in
      let right : given.right ≡ first_turn permit (blank_of given.held) = is.right ∙ opened ∙ ap (λ (p : Picture). first_turn permit p) (sym blank) in
      moves_only table q after (seated (lent q given.slot.0) given.slot.0 size.0 size.1 false) by (call.Dequeue width height wait permit) (reply.Dequeued given.slot given.held requested given.reallocated given.fence) (lent_reply q.number given requested None) is.after
      (record { number = refl; width = refl; height = refl }) (λ P F of_item rights. IsFit-renewed P F q given.slot.0 size.0 size.1 false sound next.free rights)
      (subst (λ (b : Bool). Continues q after by (plain.Dequeue width height wait) (reply.Dequeued given.slot given.held b given.reallocated given.fence)) kept goes)
      (rw new (ap (λ (turn : Right). done_reply (given.slot.0 ∷ given.held.number ∷ 1 ∷ points_of given.fence) (gives.Write (record { queue = q.number; slot = given.slot; held = given.held; requested = false; fence = given.fence; work = work.Fresh turn })) None None) right))
      (λ log stored. tt) refl

  -- a loose buffer comes into the queue, and is lent
  pub attaches : (q after : Queue Right) (by : ActorId) (loose : LooseOf) (slot : SlotId) (held : Held) (answer : QReply B) → IsSound q → slot_for false (told_of q) ≡ Some slot.0 → after ≡ seated (lent q slot.0) slot.0 loose.held.width loose.held.height true → Continues q after by (plain.Attach loose.held) (reply.Attached slot held) → answer ≡ done_reply (slot.0 ∷ held.number ∷ []) (gives.Write (attached_lease q.number slot held loose)) None None → Does table q after by (call.Attach loose) answer
  attaches q after by loose slot held answer sound next left goes is =
      moves_only table q after (seated (lent q slot.0) slot.0 loose.held.width loose.held.height true) by (call.Attach loose) (reply.Attached slot held) answer left
      (record { number = refl; width = refl; height = refl }) (λ P F of_item rights. IsFit-renewed P F q slot.0 loose.held.width loose.held.height true sound (next_free q sound false slot.0 next) rights)
      goes is (λ log stored. subst (FromLog log (call.Attach loose)) (sym is) tt) (ap (λ (r : QReply B). left_by (call.Attach loose) r.gives) is)
