-- What a call leaves owed, and which turns leave with it, are those of its move.
use Rattle.std.proofs.Common.{◌≡◌, ℕ, true, false, List, [], ◌∷◌, ◌++◌, ap, ◌∙◌, sym, refl, subst, Option, Some, None}
use Rattle.sf_base.specs.declared.ids.QueueId.{QueueId}
use Rattle.sf_actor_set.specs.sf_picture.declared.picture.Picture.{Picture}
use Rattle.sf_slots.specs.declared.calls.PlainReply.{PlainReply}
use Rattle.sf_slots.specs.declared.calls.PlainReply.TheVariants as plain
use Rattle.sf_actor_set.specs.sf_surface.declared.call.QCall.{QCall}
use Rattle.sf_actor_set.specs.sf_surface.declared.call.QCall.TheVariants as call
use Rattle.sf_actor_set.specs.sf_surface.declared.call.QReply.{QReply}
use Rattle.sf_actor_set.specs.sf_surface.declared.work.Work.{Work}
use Rattle.sf_actor_set.specs.sf_surface.declared.work.Work.TheVariants as work
use Rattle.sf_actor_set.specs.sf_surface.Hands.{IsReply, brought, owes}
use Rattle.sf_actor_set.specs.sf_surface.Tokens.{EndingOf, WriteLeaseOf, ending_drawn, ending_of, turn_of}
use Rattle.sf_actor_set.specs.sf_actor.Desks.{DeskView}
use Rattle.sf_actor_set.specs.sf_actor.Rights.{Turn, issued_turn, turn_by}
use Rattle.sf_actor_set.specs.sf_actor_steps.Calling.{Ends}
use Rattle.law_rights.specs.Calls.{ending, move_of, queueing}
use Rattle.law_rights.specs.Moves.{Gets, ended_by, owed_by}
use Rattle.law_rights.proofs.CallBalance.{refused_goes}
use Rattle.law_rights.proofs.OwedDrawings.{gets_push, gets_same, owes_by}

abbrev pub turns_of : Option EndingOf → List Turn
turns_of None = []
turns_of (Some ending) = issued_turn ending.turn ∷ []

queue_owes : (B : Type 0) (queue : QueueId) (lease : WriteLeaseOf) (picture : Picture) (frame : ℕ) (done : Work)
    → owes_by (owes {B = B} queue lease frame picture done) ≡ owed_by (queueing done (record { turn = turn_by (turn_of done); frame = (queue, frame) }))
queue_owes B queue lease picture frame (work.Fresh turn) = refl
queue_owes B queue lease picture frame (work.Drawn inside pixels) = refl

queue_ends : (done : Work) (picture : Picture) (frame : QueueId × ℕ) → turns_of (ending_of done picture) ≡ ended_by (queueing done (record { turn = turn_by (turn_of done); frame = frame }))
queue_ends (work.Fresh turn) picture frame = refl
queue_ends (work.Drawn inside pixels) picture frame = refl

drawn_ends : (done : Work) → turns_of (ending_drawn done) ≡ ended_by (ending done)
drawn_ends (work.Fresh turn) = refl
drawn_ends (work.Drawn inside pixels) = refl

drawn_owes : (done : Work) → [] ≡ owed_by (ending done)
drawn_owes (work.Fresh turn) = refl
drawn_owes (work.Drawn inside pixels) = refl

module _ {B : Type 0} where
  pub brought_owes : (asked : QCall B) → owes_by (brought asked) ≡ []
  brought_owes call.Connect = refl
  brought_owes asked = refl

  pub owes_are : (queue : QueueId) (asked : QCall B) (answered : PlainReply) (reply : QReply B) → IsReply queue asked answered reply → owes_by reply.gives ≡ owed_by (move_of queue asked answered)
  owes_are queue asked (plain.Refused cause) reply is =
      ap (λ (r : QReply B). owes_by r.gives) is ∙ brought_owes asked ∙ sym (ap owed_by (refused_goes queue asked cause))
  owes_are queue (call.Queue lease picture time crop fence) (plain.Queued frame) reply is = ap (λ (r : QReply B). owes_by r.gives) is ∙ queue_owes B queue lease picture frame lease.work
  owes_are queue (call.Cancel lease fence) plain.Done reply is = ap (λ (r : QReply B). owes_by r.gives) is ∙ drawn_owes lease.work
  owes_are queue (call.Detach lease) plain.Done reply is = ap (λ (r : QReply B). owes_by r.gives) is ∙ drawn_owes lease.work
  owes_are queue (call.Dequeue wide high wait permit) (plain.Dequeued slot held requested true fence) reply is = ap (λ (r : QReply B). owes_by r.gives) is
  owes_are queue (call.Dequeue wide high wait permit) (plain.Dequeued slot held requested false fence) reply is = ap (λ (r : QReply B). owes_by r.gives) is.1
  owes_are queue (call.Acquire expected) (plain.Acquired item dropped) reply is = ap (λ (r : QReply B). owes_by r.gives) is.1
  owes_are queue (call.Request lease) (plain.Requested held) reply is = ap (λ (r : QReply B). owes_by r.gives) is
  owes_are queue (call.Attach loose) (plain.Attached slot held) reply is = ap (λ (r : QReply B). owes_by r.gives) is
  owes_are queue (call.DetachRead lease) plain.Done reply is = ap (λ (r : QReply B). owes_by r.gives) is
  owes_are queue (call.AttachRead loose) (plain.Attached slot held) reply is = ap (λ (r : QReply B). owes_by r.gives) is
  owes_are queue (call.Release lease fence) plain.Done reply is = ap (λ (r : QReply B). owes_by r.gives) is
  owes_are queue call.Connect plain.Done reply is = ap (λ (r : QReply B). owes_by r.gives) is
  owes_are queue call.Disconnect plain.Done reply is = ap (λ (r : QReply B). owes_by r.gives) is
  owes_are queue (call.MaxDequeued n) plain.Done reply is = ap (λ (r : QReply B). owes_by r.gives) is
  owes_are queue (call.Async on) plain.Done reply is = ap (λ (r : QReply B). owes_by r.gives) is
  owes_are queue (call.MaxAcquired n) plain.Done reply is = ap (λ (r : QReply B). owes_by r.gives) is
  owes_are queue call.Abandon plain.Done reply is = ap (λ (r : QReply B). owes_by r.gives) is
  owes_are queue asked answered reply is = absurd is

  pub ends_are : (queue : QueueId) (asked : QCall B) (answered : PlainReply) (reply : QReply B) → IsReply queue asked answered reply → turns_of reply.ends ≡ ended_by (move_of queue asked answered)
  ends_are queue asked (plain.Refused cause) reply is = ap (λ (r : QReply B). turns_of r.ends) is ∙ sym (ap ended_by (refused_goes queue asked cause))
  ends_are queue (call.Queue lease picture time crop fence) (plain.Queued frame) reply is = ap (λ (r : QReply B). turns_of r.ends) is ∙ queue_ends lease.work picture (queue, frame)
  ends_are queue (call.Cancel lease fence) plain.Done reply is = ap (λ (r : QReply B). turns_of r.ends) is ∙ drawn_ends lease.work
  ends_are queue (call.Detach lease) plain.Done reply is = ap (λ (r : QReply B). turns_of r.ends) is ∙ drawn_ends lease.work
  ends_are queue (call.Dequeue wide high wait permit) (plain.Dequeued slot held requested true fence) reply is = ap (λ (r : QReply B). turns_of r.ends) is
  ends_are queue (call.Dequeue wide high wait permit) (plain.Dequeued slot held requested false fence) reply is = ap (λ (r : QReply B). turns_of r.ends) is.1
  ends_are queue (call.Acquire expected) (plain.Acquired item dropped) reply is = ap (λ (r : QReply B). turns_of r.ends) is.1
  ends_are queue (call.Request lease) (plain.Requested held) reply is = ap (λ (r : QReply B). turns_of r.ends) is
  ends_are queue (call.Attach loose) (plain.Attached slot held) reply is = ap (λ (r : QReply B). turns_of r.ends) is
  ends_are queue (call.DetachRead lease) plain.Done reply is = ap (λ (r : QReply B). turns_of r.ends) is
  ends_are queue (call.AttachRead loose) (plain.Attached slot held) reply is = ap (λ (r : QReply B). turns_of r.ends) is
  ends_are queue (call.Release lease fence) plain.Done reply is = ap (λ (r : QReply B). turns_of r.ends) is
  ends_are queue call.Connect plain.Done reply is = ap (λ (r : QReply B). turns_of r.ends) is
  ends_are queue call.Disconnect plain.Done reply is = ap (λ (r : QReply B). turns_of r.ends) is
  ends_are queue (call.MaxDequeued n) plain.Done reply is = ap (λ (r : QReply B). turns_of r.ends) is
  ends_are queue (call.Async on) plain.Done reply is = ap (λ (r : QReply B). turns_of r.ends) is
  ends_are queue (call.MaxAcquired n) plain.Done reply is = ap (λ (r : QReply B). turns_of r.ends) is
  ends_are queue call.Abandon plain.Done reply is = ap (λ (r : QReply B). turns_of r.ends) is
  ends_are queue asked answered reply is = absurd is

  -- an ending adds its turn to those that left, and changes no calls
  pub ending_left : (ends : Option EndingOf) (old new : DeskView B) → Ends ends old new → Gets old.turns.leaves (turns_of ends) new.turns.leaves × (new.calls ≡ old.calls) × (new.arrivals ≡ old.arrivals)
  ending_left None old new same = (
    subst (λ (view : DeskView B). Gets old.turns.leaves [] view.turns.leaves) (sym same) (gets_same old.turns.leaves),
    ap (λ (view : DeskView B). view.calls) same,
    ap (λ (view : DeskView B). view.arrivals) same,
  )
  ending_left (Some ending) old new ended =
      let leaves : new.turns.leaves ≡ old.turns.leaves ++ (ending.turn.buffer, ending.turn.number) ∷ [] = ap (λ v. v.leaves) ended.0.1 in (
        subst (λ (xs : List Turn). Gets old.turns.leaves (issued_turn ending.turn ∷ []) xs) (sym leaves) (gets_push old.turns.leaves (issued_turn ending.turn)),
        ap (λ (view : DeskView B). view.calls) ended.1,
        ap (λ (view : DeskView B). view.arrivals) ended.1,
      )
