-- Where the rights are that a call on a queue brings, and those that it gives.
use Rattle.std.specs.Prelude.{◌≡◌, true, List, [], ◌∷◌, Contains}
use Rattle.sf_base.specs.declared.ids.QueueId.{QueueId}
use Rattle.sf_slots.specs.declared.calls.PlainReply.{PlainReply}
use Rattle.sf_slots.specs.declared.calls.PlainReply.TheVariants as plain
use Rattle.sf_actor_set.specs.sf_surface.declared.call.Gives.{Gives}
use Rattle.sf_actor_set.specs.sf_surface.declared.call.Gives.TheVariants as gives
use Rattle.sf_actor_set.specs.sf_surface.declared.call.QCall.{QCall}
use Rattle.sf_actor_set.specs.sf_surface.declared.call.QCall.TheVariants as call
use Rattle.sf_actor_set.specs.sf_surface.Tokens.{WriteLeaseOf, turn_of}
use Rattle.sf_actor_set.specs.sf_actor.Makers.{BufferOf}
use Rattle.sf_actor_set.specs.sf_actor.Rights.{turn_by}
use Rattle.law_rights.specs.Makers.{RightAt, right_read}

-- one of these rights is of the same buffer, at the same place
abbrev pub WasIn : List RightAt → RightAt → Type 0
WasIn rights right = (was : RightAt) × Contains rights was × (was.turn.0 ≡ right.turn.0) × (was.at ≡ right.at)

abbrev pub right_written : WriteLeaseOf → RightAt
right_written lease = record { turn = turn_by (turn_of lease.work); at = record { queue = lease.queue.0; number = lease.held.number } }

module _ {B : Type 0} where
  -- the right that a call brings; a loose buffer was last in a queue that the call does not name
  abbrev pub brought_at : BufferOf → QCall B → List RightAt
  brought_at from (call.Request lease) = right_written lease ∷ []
  brought_at from (call.Queue lease picture time crop fence) = right_written lease ∷ []
  brought_at from (call.Cancel lease fence) = right_written lease ∷ []
  brought_at from (call.Detach lease) = right_written lease ∷ []
  brought_at from (call.Attach loose) = record { turn = turn_by loose.turn; at = from } ∷ []
  brought_at from (call.Release lease fence) = right_read lease ∷ []
  brought_at from (call.DetachRead lease) = right_read lease ∷ []
  brought_at from (call.AttachRead loose) = record { turn = turn_by loose.turn; at = from } ∷ []
  brought_at from asked = []

  -- where a loose buffer was last that a reply gives
  abbrev pub loose_from : BufferOf → QCall B → BufferOf
  loose_from from (call.Detach lease) = record { queue = lease.queue.0; number = lease.held.number }
  loose_from from (call.DetachRead lease) = record { queue = lease.queue.0; number = lease.held.number }
  loose_from from asked = from

  -- the right that a reply gives
  abbrev pub given_at : BufferOf → QCall B → Gives B → List RightAt
  given_at from asked (gives.Write lease) = right_written lease ∷ []
  given_at from asked (gives.Read lease) = right_read lease ∷ []
  given_at from asked (gives.Free loose) = record { turn = turn_by loose.turn; at = loose_from from asked } ∷ []
  given_at from asked other = []

  -- a buffer comes to the queue with a call: one that is made, or one that is attached
  abbrev pub IsNewAt : QueueId → QCall B → PlainReply → RightAt → Type 0
  IsNewAt queue (call.Dequeue width height wait permit) (plain.Dequeued slot held requested true fence) right =
      right ≡ record { turn = (permit.buffer, 0); at = record { queue = queue.0; number = held.number } }
  IsNewAt queue (call.Attach loose) (plain.Attached slot held) right = right ≡ record { turn = turn_by loose.turn; at = record { queue = queue.0; number = held.number } }
  IsNewAt queue (call.AttachRead loose) (plain.Attached slot held) right = right ≡ record { turn = turn_by loose.turn; at = record { queue = queue.0; number = held.number } }
  IsNewAt queue asked answered right = ⊥
