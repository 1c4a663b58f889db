-- A call keeps a state's ledger.
use Rattle.std.proofs.Common.{◌≡◌, ℕ, true, List, [], arith, ap, ◌∙◌, sym, refl, subst}
use Rattle.std.specs.Prelude.{Contains}
use Rattle.std.specs.List.{sum_by}
use Rattle.std.proofs.lemmas.List.Elements.{Contains-append_left, Contains-append_right}
use Rattle.std.proofs.lemmas.List.Sums.{sum_by-append}
use Rattle.sf_base.specs.declared.ids.QueueId.{QueueId}
use Rattle.sf_slots.specs.declared.calls.PlainReply.{PlainReply}
use Rattle.sf_slots.specs.declared.calls.PlainReply.TheVariants as plain
use Rattle.sf_actor_set.specs.sf_surface.declared.call.QCall.{QCall}
use Rattle.sf_actor_set.specs.sf_surface.declared.call.QCall.TheVariants as call
use Rattle.sf_actor_set.specs.sf_surface.declared.call.QReply.{QReply}
use Rattle.sf_actor_set.specs.sf_surface.declared.mark.QueueMark.{QueueMark}
use Rattle.sf_actor_set.specs.sf_surface.declared.work.Work.{Work}
use Rattle.sf_actor_set.specs.sf_surface.declared.work.Work.TheVariants as work
use Rattle.sf_actor_set.specs.sf_surface.Histories.{Made, told_reply}
use Rattle.sf_actor_set.specs.sf_surface.Tokens.{turn_of}
use Rattle.sf_actor_set.specs.sf_actor.Desks.{mark_among}
use Rattle.sf_actor_set.specs.sf_actor.Rights.{Turn, turn_by}
use Rattle.law_rights.specs.Calls.{brought_rights, ending, given_rights, move_of, queueing, writes_in}
use Rattle.law_rights.specs.Ledgers.{IsLedger, Ledger, Write}
use Rattle.law_rights.specs.Moves.{AreIn, Gets, HasAtMost, MayMove, Move, Moves, given_by, made_by, owed_by, paid_by, queued_by, used_by}
use Rattle.law_rights.specs.States.{CallsOnce, State, all_buffers, all_lying, all_owed, all_writes, ledger_of, move_on, rights_held}
use Rattle.law_rights.specs.Steps.{CallStep}
use Rattle.law_rights.proofs.CallEffects.{buffers_move, move_writes, rights_move, writes_move}
use Rattle.law_rights.proofs.TurnCounts.{first}
use Rattle.law_rights.proofs.FrameNumbers.{frame_is_next, frames_below, frames_in}
use Rattle.law_rights.proofs.MoveKeepsLedger.{move_keeps}
use Rattle.law_rights.proofs.QueueCounts.{in_some, mark_only, mark_there}

module _ {B : Type 0} (marks : List QueueMark) (old new : ℕ → List (Made B)) (by queue step : ℕ) (asked : QCall B) (reply : QReply B) (once : CallsOnce marks old new by queue step asked reply) where
  -- a frame that a call queues was queued by no call before
  pub frame_new : (write other : Write) → Contains (queued_by (move_on marks old by queue asked)) write → Contains (all_writes marks old) other → other.frame ≡ write.frame → ⊥
  frame_new write other now before same =
      let mark = mark_among marks queue in
      let next = frame_is_next mark (old queue) by asked (told_reply mark (old queue) by asked) write refl
      (subst (λ (ws : List Write). Contains ws write) (move_writes mark.queue asked (told_reply mark (old queue) by asked)) now) in
      let found = in_some (λ (m : QueueMark). writes_in m (old m.queue.0)) marks other before in
      let below = frames_below found.0 (old found.0.queue.0) other found.2 in
      let numbers : found.0.queue.0 ≡ mark.queue.0 = ap (λ (q : QueueId). q.0) (sym below.0 ∙ ap (λ (f : QueueId × ℕ). f.0) same ∙ next.0) in
      let is : found.0 ≡ mark = mark_only marks found.0 once.apart found.1 ∙ ap (mark_among marks) (numbers ∙ (mark_there marks queue once.there).1) in
      let low = below.1 in
      let high = next.1 in
      let frames = ap (λ (f : QueueId × ℕ). f.1) same in
      let count = ap (λ (m : QueueMark). frames_in m (old m.queue.0)) is ∙ ap (λ (q : ℕ). frames_in mark (old q)) (mark_there marks queue once.there).1 in
      omega (arith, low, high, frames, count)

-- what a call's move uses up is what the call brings
queueing_uses : (done : Work) (write : Write) (live : Ledger) → write.turn ≡ turn_by (turn_of done) → Contains live.live (turn_by (turn_of done))
    → ((other : Write) → Contains live.queued other → other.frame ≡ write.frame → ⊥) → MayMove (queueing done write) live
queueing_uses (work.Fresh turn) write l same there new = (subst (λ (t : Turn). Contains l.live t) (sym same) there, new)
queueing_uses (work.Drawn inside pixels) write l same there new = (subst (λ (t : Turn). Contains l.live t) (sym same) there, new)

ending_uses : (done : Work) (l : Ledger) → Contains l.live (turn_by (turn_of done)) → MayMove (ending done) l
ending_uses (work.Fresh turn) l there = tt
ending_uses (work.Drawn inside pixels) l there = there

-- a call pays nothing
queueing_pays : (done : Work) (write : Write) → paid_by (queueing done write) ≡ []
queueing_pays (work.Fresh turn) write = refl
queueing_pays (work.Drawn inside pixels) write = refl

ending_pays : (done : Work) → paid_by (ending done) ≡ []
ending_pays (work.Fresh turn) = refl
ending_pays (work.Drawn inside pixels) = refl

module _ {B : Type 0} where
  may_call : (queue : QueueId) (asked : QCall B) (answered : PlainReply) (l : Ledger) → AreIn (brought_rights asked) l.live
      → ((write other : Write) → Contains (queued_by (move_of queue asked answered)) write → Contains l.queued other → other.frame ≡ write.frame → ⊥)
      → ((buffer : ℕ) → Contains (made_by (move_of queue asked answered)) buffer → Contains l.made buffer → ⊥) → MayMove (move_of queue asked answered) l
  may_call queue (call.Dequeue wide high wait permit) (plain.Dequeued slot held requested true fence) l brought new unmade = unmade permit.buffer (first permit.buffer [])
  may_call queue (call.Queue lease picture time crop fence) (plain.Queued frame) l brought new unmade =
      queueing_uses lease.work (record { turn = turn_by (turn_of lease.work); frame = (queue, frame) }) l refl (brought (turn_by (turn_of lease.work)) (first (turn_by (turn_of lease.work)) []))
      (λ other there. new (record { turn = turn_by (turn_of lease.work); frame = (queue, frame) }) other
      (subst (λ (ws : List Write). Contains ws (record { turn = turn_by (turn_of lease.work); frame = (queue, frame) })) (sym (move_writes {B = B} queue (call.Queue lease picture time crop fence) (plain.Queued frame)))
      (first (record { turn = turn_by (turn_of lease.work); frame = (queue, frame) }) [])) there)
  may_call queue (call.Cancel lease fence) plain.Done l brought new unmade = ending_uses lease.work l (brought (turn_by (turn_of lease.work)) (first (turn_by (turn_of lease.work)) []))
  may_call queue (call.Detach lease) plain.Done l brought new unmade = ending_uses lease.work l (brought (turn_by (turn_of lease.work)) (first (turn_by (turn_of lease.work)) []))
  may_call queue asked answered l brought new unmade = tt

  call_pays : (queue : QueueId) (asked : QCall B) (answered : PlainReply) → paid_by (move_of queue asked answered) ≡ []
  call_pays queue (call.Dequeue wide high wait permit) (plain.Dequeued slot held requested true fence) = refl
  call_pays queue (call.Queue lease picture time crop fence) (plain.Queued frame) = queueing_pays lease.work _
  call_pays queue (call.Cancel lease fence) plain.Done = ending_pays lease.work
  call_pays queue (call.Detach lease) plain.Done = ending_pays lease.work
  call_pays queue asked answered = refl

  pub call_keeps : (old new : State B) (by queue step : ℕ) (asked : QCall B) (reply : QReply B) → CallStep old new by queue step asked reply → IsLedger (ledger_of old) → IsLedger (ledger_of new)
  call_keeps old new by queue step asked reply made is = move_keeps move (ledger_of old) (ledger_of new) is may moves
    where
      move : Move
      move = move_on old.marks old.view.calls by queue asked

      may : MayMove move (ledger_of old)
      may = may_call (mark_among old.marks queue).queue asked (told_reply (mark_among old.marks queue) (old.view.calls queue) by asked) (ledger_of old)
          (λ turn there. Contains-append_right (all_lying old.marks old.view.calls) (rights_held old) turn (made.brought turn there))
          (frame_new old.marks old.view.calls new.view.calls by queue step asked reply made.once) made.unmade

      live : HasAtMost (ledger_of old).live (used_by move) (given_by move) (ledger_of new).live
      live w =
          let queues = rights_move old.marks old.view.calls new.view.calls by queue step asked reply made.once w in
          let bindings = made.held w in
          let marks = ap (λ (ms : List QueueMark). sum_by w (all_lying ms new.view.calls)) made.marks in
          let a = sum_by-append w (all_lying old.marks old.view.calls) (brought_rights asked) in
          let b = sum_by-append w (all_lying old.marks new.view.calls) (given_rights reply.gives) in
          let c = sum_by-append w (rights_held old) (given_rights reply.gives) in
          let d = sum_by-append w (all_lying old.marks old.view.calls) (rights_held old) in
          let e = sum_by-append w (all_lying new.marks new.view.calls) (rights_held new) in
          omega (arith, queues, bindings, marks, a, b, c, d, e)

      moves : Moves move (ledger_of old) (ledger_of new)
      moves = record {
        live = live;
        owed = made.owed.no_others;
        unpaid = λ write there.
            Contains-append_right (paid_by move) (all_owed new) write (made.owed.all write (Contains-append_right (owed_by move) (all_owed old) write there));
        owes = λ write there. made.owed.all write (Contains-append_left (owed_by move) (all_owed old) write there);
        queued = subst (λ (ms : List QueueMark). Gets (all_writes old.marks old.view.calls) (queued_by move) (all_writes ms new.view.calls)) (sym made.marks)
            (writes_move old.marks old.view.calls new.view.calls by queue step asked reply made.once);
        left = made.left;
        written = made.written;
        made = subst (λ (ms : List QueueMark). Gets (all_buffers old.marks old.view.calls) (made_by move) (all_buffers ms new.view.calls)) (sym made.marks)
            (buffers_move old.marks old.view.calls new.view.calls by queue step asked reply made.once);
      }
