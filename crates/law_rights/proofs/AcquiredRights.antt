-- A frame that was acquired was queued, and its right follows the turn in which it is written.
use Rattle.std.proofs.Common.{◌≡◌, ℕ, List, [], ◌∷◌, ap, ◌∙◌, sym, refl, inl, inr, subst, ◌⊎◌, Option}
use Rattle.std.specs.Prelude.{Contains}
use Rattle.std.proofs.lemmas.List.Elements.{Contains-append_left, Contains-append_right}
use Rattle.sf_base.specs.declared.ids.QueueId.{QueueId}
use Rattle.sf_base.specs.Fences.{Fence}
use Rattle.sf_base.specs.declared.geometry.Rect.{Rect}
use Rattle.sf_actor_set.specs.sf_calls.Histories.{IsLegal}
use Rattle.sf_actor_set.specs.sf_picture.declared.picture.Picture.{Picture}
use Rattle.sf_slots.specs.declared.calls.PlainReply.{PlainReply}
use Rattle.sf_slots.specs.declared.calls.PlainReply.TheVariants as plain
use Rattle.sf_actor_set.specs.sf_surface.declared.call.Gives.{Gives}
use Rattle.sf_actor_set.specs.sf_surface.declared.call.Gives.TheVariants as gives
use Rattle.sf_actor_set.specs.sf_surface.declared.call.QCall.{QCall}
use Rattle.sf_actor_set.specs.sf_surface.declared.call.QCall.TheVariants as call
use Rattle.sf_actor_set.specs.sf_surface.declared.call.QReply.{QReply}
use Rattle.sf_actor_set.specs.sf_surface.declared.mark.QueueMark.{QueueMark}
use Rattle.sf_actor_set.specs.sf_surface.Hands.{IsReply}
use Rattle.sf_actor_set.specs.sf_surface.Histories.{Answers, ComesFrom, Made, Queued, Replied, told_reply}
use Rattle.sf_actor_set.specs.sf_surface.Reading.{PlainLease}
use Rattle.sf_actor_set.specs.sf_surface.Tokens.{ReadLeaseOf, Right, WriteLeaseOf, turn_of}
use Rattle.sf_actor_set.specs.sf_actor.Desks.{mark_among}
use Rattle.sf_actor_set.specs.sf_actor.Rights.{turn_by}
use Rattle.law_rights.specs.Calls.{write_of, writes_in}
use Rattle.law_rights.specs.Ledgers.{Write}
use Rattle.law_rights.specs.Loads.{IsQueuedFrame, WasAcquired}
use Rattle.law_rights.specs.Moves.{AreIn, turn_after}
use Rattle.law_rights.specs.States.{State, ledger_of}
use Rattle.law_rights.proofs.TurnCounts.{first, in_front, none_in}
use Rattle.law_rights.proofs.QueueCounts.{in_all, mark_there}

module _ {B : Type 0} (mark : QueueMark) where
  -- a call of a legal history, with those before it
  record CallAt (calls : List (Made B)) (made : Made B) : Type 0 where
    earlier : List (Made B)
    legal : IsLegal (Answers mark) earlier
    replied : Replied mark earlier made.by made.call.1 made.reply
    writes : AreIn (writes_in mark (made ∷ earlier)) (writes_in mark calls)

  call_at : (calls : List (Made B)) (made : Made B) → IsLegal (Answers mark) calls → Contains calls made → CallAt calls made
  call_at [] made legal there = absurd (none_in made there)
  call_at (m ∷ calls) made legal there = by_place (in_front m made calls there) (λ rest. call_at calls made legal.1 rest)
    where
      by_place : (m ≡ made) ⊎ Contains calls made → (Contains calls made → CallAt calls made) → CallAt (m ∷ calls) made
      by_place (inl same) further = subst (λ (x : Made B). CallAt (m ∷ calls) x) same (record { earlier = calls; legal = legal.1; replied = legal.0; writes = λ w there. there })
      by_place (inr rest) further =
          let found = further rest in record {
            earlier = found.earlier;
            legal = found.legal;
            replied = found.replied;
            writes = λ w there. Contains-append_right (write_of mark.queue m.call.1 (told_reply mark calls m.by m.call.1)) (writes_in mark calls) w (found.writes w there);
          }

  -- a call that queued a frame wrote it
  queue_told : (lease : WriteLeaseOf) (picture : Picture) (time : Option ℕ) (crop : Rect) (fence : Fence) (frame : ℕ) (answered : PlainReply) (reply : QReply B) → IsReply mark.queue (call.Queue lease picture time crop fence) answered reply
      → reply.values ≡ lease.slot.0 ∷ frame ∷ [] → Contains (write_of {B = B} mark.queue (call.Queue lease picture time crop fence) answered) (record { turn = turn_by (turn_of lease.work); frame = (mark.queue, frame) })
  queue_told lease picture time crop fence frame (plain.Refused cause) reply is values = absurd (cc (ap (λ (r : QReply B). r.values) is, values))
  queue_told lease picture time crop fence frame (plain.Queued number) reply is values =
      let same : number ≡ frame = cc (ap (λ (r : QReply B). r.values) is, values) in
      subst (λ (n : ℕ). Contains {X = Write} (record { turn = turn_by (turn_of lease.work); frame = (mark.queue, number) } ∷ []) (record { turn = turn_by (turn_of lease.work); frame = (mark.queue, n) })) same
      (first (record { turn = turn_by (turn_of lease.work); frame = (mark.queue, number) }) [])
  queue_told lease picture time crop fence frame answered reply is values = absurd is

  queued_write : (calls : List (Made B)) (frame : ℕ) (right : Right) → IsLegal (Answers mark) calls → Queued calls frame right → (write : Write) × Contains (writes_in mark calls) write × (write.frame ≡ (mark.queue, frame)) × (turn_by right ≡ turn_after write.turn)
  queued_write calls frame right legal queued =
      let made = queued.0 in
      let queues = queued.2 in
      let at = call_at calls made legal queued.1 in
      let asked : QCall B = call.Queue queues.lease queues.picture queues.time queues.crop queues.fence in
      let same : made.call.1 ≡ asked = ap (λ (c : ℕ × QCall B). c.1) queues.call in
      let write : Write = record { turn = turn_by (turn_of queues.lease.work); frame = (mark.queue, frame) } in
      let told = queue_told queues.lease queues.picture queues.time queues.crop queues.fence frame (told_reply mark at.earlier made.by made.call.1) made.reply
      (subst (λ (c : QCall B). IsReply mark.queue c (told_reply mark at.earlier made.by made.call.1) made.reply) same at.replied.answer) (ap (λ (r : QReply B). r.values) queues.reply) in
      let there : Contains (write_of mark.queue made.call.1 (told_reply mark at.earlier made.by made.call.1)) write =
      subst (λ (c : QCall B). Contains (write_of mark.queue c (told_reply mark at.earlier made.by made.call.1)) write) (sym same) told in
      (write, at.writes write (Contains-append_left (write_of mark.queue made.call.1 (told_reply mark at.earlier made.by made.call.1)) (writes_in mark at.earlier) write there), refl, ap turn_by queues.follows)

  -- an acquired frame is one of the queue
  acquire_told : (expected : ℕ) (answered : PlainReply) (reply : QReply B) (lease : ReadLeaseOf) → IsReply mark.queue (call.Acquire expected) answered reply → reply.gives ≡ gives.Read lease → lease.queue ≡ mark.queue
  acquire_told expected (plain.Refused cause) reply lease is given = absurd (cc (ap (λ (r : QReply B). r.gives) is, given))
  acquire_told expected (plain.Acquired item dropped) reply lease is given =
      let same = sym given ∙ ap (λ (r : QReply B). r.gives) is.1 in
      ap (queue_in mark.queue) same
    where
      queue_in : QueueId → Gives B → QueueId
      queue_in other (gives.Read lease) = lease.queue
      queue_in other given = other
  acquire_told expected answered reply lease is given = absurd is

  pub acquired_write : (calls : List (Made B)) (made : Made B) (lease : ReadLeaseOf) (expected : ℕ) → IsLegal (Answers mark) calls → Contains calls made → made.call.1 ≡ call.Acquire expected → made.reply.gives ≡ gives.Read lease
      → (write : Write) × Contains (writes_in mark calls) write × (write.frame ≡ (lease.queue, lease.frame)) × (turn_by lease.turn ≡ turn_after write.turn)
  acquired_write calls made lease expected legal there asked given =
      let at = call_at calls made legal there in
      let from : ComesFrom at.earlier (call.Acquire expected) (gives.Read lease) made.reply.spare =
      subst (λ (g : Gives B). ComesFrom at.earlier (call.Acquire expected) g made.reply.spare) given (subst (λ (c : QCall B). ComesFrom at.earlier c made.reply.gives made.reply.spare) asked at.replied.from) in
      let found = queued_write at.earlier lease.frame lease.turn at.legal from.0 in
      let queue = acquire_told expected (told_reply mark at.earlier made.by made.call.1) made.reply lease (subst (λ (c : QCall B). IsReply mark.queue c (told_reply mark at.earlier made.by made.call.1) made.reply) asked at.replied.answer) given in (
        found.0,
        at.writes found.0 (Contains-append_right (write_of mark.queue made.call.1 (told_reply mark at.earlier made.by made.call.1)) (writes_in mark at.earlier) found.0 found.1),
        found.2 ∙ ap (λ (q : QueueId). (q, lease.frame)) (sym queue),
        found.3,
      )

module _ {B : Type 0} where
  pub acquired_queued : (state : State B) (lease : ReadLeaseOf) → WasAcquired state.marks state.view.calls lease → IsQueuedFrame (ledger_of state) lease
  acquired_queued state lease was = record {
    write = found.0;
    queued = in_all (λ (m : QueueMark). writes_in m (state.view.calls m.queue.0)) state.marks mark found.0 (mark_there state.marks was.queue was.there).0
        (subst (λ (q : ℕ). Contains (writes_in mark (state.view.calls q)) found.0) (sym (mark_there state.marks was.queue was.there).1) found.1);
    frame = found.2 ∙ sym (ap (λ (p : PlainLease). (p.queue, p.frame)) was.plain);
    follows = (λ i. (ap (λ (p : PlainLease). p.buffer) was.plain i, was.number i)) ∙ found.3;
  }
    where
      mark : QueueMark
      mark = mark_among state.marks was.queue

      found : (write : Write) × Contains (writes_in mark (state.view.calls was.queue)) write × (write.frame ≡ (was.given.queue, was.given.frame)) × (turn_by was.given.turn ≡ turn_after write.turn)
      found = acquired_write mark (state.view.calls was.queue) was.made was.given was.expected was.legal was.made_there was.asked was.gives
