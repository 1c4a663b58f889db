-- What a call on a queue does to the turns.
use Rattle.std.specs.Prelude.{ℕ, true, List, [], ◌∷◌, ◌++◌, option_to_list}
use Rattle.sf_base.specs.declared.ids.QueueId.{QueueId}
use Rattle.sf_actor_set.specs.sf_calls.Histories.{entry}
use Rattle.sf_slots.specs.declared.calls.PlainReply.{PlainReply}
use Rattle.sf_slots.specs.declared.calls.PlainReply.TheVariants as plain
use Rattle.sf_actor_set.specs.sf_surface.declared.call.Gives.{Gives}
use Rattle.sf_actor_set.specs.sf_surface.declared.call.Gives.TheVariants as gives
use Rattle.sf_actor_set.specs.sf_surface.declared.call.QCall.{QCall}
use Rattle.sf_actor_set.specs.sf_surface.declared.call.QCall.TheVariants as call
use Rattle.sf_actor_set.specs.sf_surface.declared.call.QReply.{QReply}
use Rattle.sf_actor_set.specs.sf_surface.declared.mark.QueueMark.{QueueMark}
use Rattle.sf_actor_set.specs.sf_surface.declared.work.Work.{Work}
use Rattle.sf_actor_set.specs.sf_surface.declared.work.Work.TheVariants as work
use Rattle.sf_actor_set.specs.sf_surface.Histories.{Made, told_reply}
use Rattle.sf_actor_set.specs.sf_surface.Tokens.{turn_of}
use Rattle.sf_actor_set.specs.sf_actor.Rights.{Turn, brought_turn, turn_by}
use Rattle.law_rights.specs.Ledgers.{Write}
use Rattle.law_rights.specs.Moves.{HasAtMost, Move, Goes, Makes, Ends, QueuesDrawn, QueuesOwed, given_by, used_by}
use Rattle.law_rights.specs.Slots.{lying}

-- the move of a lease that is queued, and of one that is given back or away
abbrev pub queueing : Work → Write → Move
queueing (work.Fresh turn) write = QueuesOwed write
queueing (work.Drawn inside pixels) write = QueuesDrawn write

abbrev pub ending : Work → Move
ending (work.Fresh turn) = Goes
ending (work.Drawn inside pixels) = Ends (turn_by inside)

module _ {B : Type 0} where
  -- the rights that a call brings, and those that a reply gives: a drawing that is owed is none
  abbrev pub brought_rights : QCall B → List Turn
  brought_rights asked = option_to_list (brought_turn asked)

  abbrev pub given_rights : Gives B → List Turn
  given_rights (gives.Write lease) = turn_by (turn_of lease.work) ∷ []
  given_rights (gives.Read lease) = turn_by lease.turn ∷ []
  given_rights (gives.Free loose) = turn_by loose.turn ∷ []
  given_rights other = []

  -- what a call does to the turns, by what the queue answers
  abbrev pub move_of : QueueId → QCall B → PlainReply → Move
  move_of queue (call.Dequeue width height wait permit) (plain.Dequeued slot held requested true fence) = Makes permit.buffer
  move_of queue (call.Queue lease picture time crop fence) (plain.Queued frame) =
      queueing lease.work (record { turn = turn_by (turn_of lease.work); frame = (queue, frame) })
  move_of queue (call.Cancel lease fence) plain.Done = ending lease.work
  move_of queue (call.Detach lease) plain.Done = ending lease.work
  move_of queue asked answered = Goes

  -- the write of a frame that a call queues, and the buffer that it makes
  abbrev pub write_of : QueueId → QCall B → PlainReply → List Write
  write_of queue (call.Queue lease picture time crop fence) (plain.Queued frame) = record { turn = turn_by (turn_of lease.work); frame = (queue, frame) } ∷ []
  write_of queue asked answered = []

  abbrev pub made_of : QCall B → PlainReply → List ℕ
  made_of (call.Dequeue width height wait permit) (plain.Dequeued slot held requested true fence) = permit.buffer ∷ []
  made_of asked answered = []

  -- the writes of all frames that the calls on a queue queued, and the buffers that they made
  abbrev pub writes_in : QueueMark → List (Made B) → List Write
  writes_in mark [] = []
  writes_in mark (made ∷ earlier) = write_of mark.queue made.call.1 (told_reply mark earlier made.by made.call.1) ++ writes_in mark earlier

  abbrev pub buffers_in : QueueMark → List (Made B) → List ℕ
  buffers_in mark [] = []
  buffers_in mark (made ∷ earlier) = made_of made.call.1 (told_reply mark earlier made.by made.call.1) ++ buffers_in mark earlier

  -- Whatever is counted of rights: what lies in a queue after a call, and what the reply gives, is no more than what lay there and what the
  -- call brought, without what its move uses up and with what it makes.
  abbrev pub MovesRights : QueueMark → List (Made B) → ℕ → ℕ → QCall B → QReply B → Type 0
  MovesRights mark earlier by step asked reply =
      let move = move_of mark.queue asked (told_reply mark earlier by asked) in
      HasAtMost (lying mark earlier ++ brought_rights asked) (used_by move) (given_by move) (lying mark (entry by (step, asked) reply ∷ earlier) ++ given_rights reply.gives)
