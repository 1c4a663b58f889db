-- The ledger of a run of one thread: what its queues, its actors, the transactions on their way and the layers hold.
use Rattle.std.specs.Prelude.{◌≡◌, ◌≢◌, ℕ, ◌==◌, Bool, false, true, List, [], ◌∷◌, ◌++◌, map, Option, Some, None}
use Rattle.std.specs.List.{flat_map, list_any}
use Rattle.sf_actor_set.specs.sf_calls.Histories.{entry}
use Rattle.sf_actor_set.specs.sf_surface.declared.call.QCall.{QCall}
use Rattle.sf_actor_set.specs.sf_surface.declared.call.QReply.{QReply}
use Rattle.sf_actor_set.specs.sf_surface.declared.mark.QueueMark.{QueueMark}
use Rattle.sf_actor_set.specs.sf_surface.Histories.{Made, Replied, told_reply}
use Rattle.sf_actor_set.specs.sf_surface.Tokens.{ReadLeaseOf, turn_of}
use Rattle.sf_actor_set.specs.sf_token.Pending.{Arrival}
use Rattle.sf_actor_set.specs.sf_txn.Buffers.{Buffer}
use Rattle.sf_actor_set.specs.sf_txn.Transactions.{Contents}
use Rattle.sf_actor_set.specs.sf_actor.declared.holding.Holding.{Holding}
use Rattle.sf_actor_set.specs.sf_actor.declared.holding.Holding.TheVariants as holding
use Rattle.sf_actor_set.specs.sf_actor.Desks.{DeskView, mark_among}
use Rattle.sf_actor_set.specs.sf_actor.Holdings.{HoldingsOf}
use Rattle.sf_actor_set.specs.sf_actor.Rights.{Turn, issued_turn, turn_by}
use Rattle.sf_actor_set.specs.sf_actor.Tries.{ActorOf}
use Rattle.sf_actor_set.specs.sf_actor.Written as written
use Rattle.law_rights.specs.Calls.{buffers_in, move_of, writes_in}
use Rattle.law_rights.specs.Ledgers.{Ledger, Write}
use Rattle.law_rights.specs.Moves.{Move}
use Rattle.law_rights.specs.Slots.{lying}

-- the marks of the queues, what the desk knows, the actors, the transactions that were sent and are not committed, and the leases of the
-- frames on layers
pub record State (B : Type 0) : Type 0 where
  pub marks : List QueueMark
  pub view : DeskView B
  pub actors : List (ActorOf B)
  pub waiting : List (Arrival ReadLeaseOf)
  pub on : List ReadLeaseOf

-- it is the mark of the queue of a number
abbrev pub is_queue : ℕ → QueueMark → Bool
is_queue queue mark = mark.queue.0 == queue

-- no two marks are of one queue
abbrev pub AreApart : List QueueMark → Type 0
AreApart [] = Unit {0}
AreApart (mark ∷ marks) = (list_any (is_queue mark.queue.0) marks ≡ false) × AreApart marks

-- the rights of leases
abbrev pub lease_turn : ReadLeaseOf → Turn
lease_turn lease = turn_by lease.turn

abbrev pub buffer_turn : Buffer ReadLeaseOf → Turn
buffer_turn buffer = turn_by buffer.lease.turn

abbrev pub rights_sent : Contents ReadLeaseOf → List Turn
rights_sent txn = map buffer_turn txn.buffers

abbrev pub rights_arrived : Arrival ReadLeaseOf → List Turn
rights_arrived arrived = rights_sent arrived.txn

-- those that a transaction number holds
abbrev pub rights_in : Option (Contents ReadLeaseOf) → List Turn
rights_in None = []
rights_in (Some txn) = rights_sent txn

module _ {B : Type 0} where
  -- the right that a name holds: a drawing that is owed is none
  abbrev pub right_of : Option (Holding B) → List Turn
  right_of (Some (holding.Lends lease)) = turn_by (turn_of lease.work) ∷ []
  right_of (Some (holding.Reads lease)) = turn_by lease.turn ∷ []
  right_of (Some (holding.Frees queue loose)) = turn_by loose.turn ∷ []
  right_of other = []

  -- the write that a name owes
  abbrev pub write_owed : Option (Holding B) → List Write
  write_owed (Some (holding.Owes owing held)) = record { turn = issued_turn owing.turn; frame = (owing.queue, owing.frame) } ∷ []
  write_owed other = []

  abbrev pub rights_of : HoldingsOf B → List Turn
  rights_of parts = flat_map right_of parts.names ++ flat_map rights_in parts.transactions

  abbrev pub owed_of : HoldingsOf B → List Write
  owed_of parts = flat_map write_owed parts.names

-- a call on a queue was made, and nobody else called meanwhile
pub record CallsOnce {B : Type 0} (marks : List QueueMark) (old new : ℕ → List (Made B)) (by queue step : ℕ) (asked : QCall B) (reply : QReply B) : Type 0 where
  pub apart : AreApart marks
  pub there : list_any (is_queue queue) marks ≡ true
  pub newest : new queue ≡ entry by (step, asked) reply ∷ old queue
  pub others : (other : ℕ) → other ≢ queue → new other ≡ old other
  pub replied : Replied (mark_among marks queue) (old queue) by asked reply

module _ {B : Type 0} where
  -- the move of a call
  abbrev pub move_on : List QueueMark → (ℕ → List (Made B)) → ℕ → ℕ → QCall B → Move
  move_on marks calls by queue asked = move_of (mark_among marks queue).queue asked (told_reply (mark_among marks queue) (calls queue) by asked)

  -- the rights that lie in all queues, the writes of the frames that they got, and the buffers that they made
  abbrev pub all_lying : List QueueMark → (ℕ → List (Made B)) → List Turn
  all_lying marks calls = flat_map (λ (mark : QueueMark). lying mark (calls mark.queue.0)) marks

  abbrev pub all_writes : List QueueMark → (ℕ → List (Made B)) → List Write
  all_writes marks calls = flat_map (λ (mark : QueueMark). writes_in mark (calls mark.queue.0)) marks

  abbrev pub all_buffers : List QueueMark → (ℕ → List (Made B)) → List ℕ
  all_buffers marks calls = flat_map (λ (mark : QueueMark). buffers_in mark (calls mark.queue.0)) marks

  -- the rights that lie in no queue: with actors, in transactions on their way, and on layers
  abbrev pub rights_held : State B → List Turn
  rights_held state = flat_map (λ (actor : ActorOf B). rights_of actor.parts) state.actors ++ flat_map rights_arrived state.waiting ++ map lease_turn state.on

  abbrev pub all_owed : State B → List Write
  all_owed state = flat_map (λ (actor : ActorOf B). owed_of actor.parts) state.actors

  abbrev pub all_written : State B → List written.FrameNumber
  all_written state = flat_map (λ (actor : ActorOf B). written.written_in actor.trace) state.actors

  -- the ledger of a state
  abbrev pub ledger_of : State B → Ledger
  ledger_of state = record {
    live = all_lying state.marks state.view.calls ++ rights_held state;
    owed = all_owed state;
    queued = all_writes state.marks state.view.calls;
    left = state.view.turns.leaves;
    written = all_written state;
    made = all_buffers state.marks state.view.calls;
  }
