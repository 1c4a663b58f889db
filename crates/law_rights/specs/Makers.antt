-- Where each made buffer is or was last, and where it was before: so far the turns at a buffer show its maker.
use Rattle.std.specs.Prelude.{◌≡◌, ℕ, ◌<◌, ◌≤◌, ◌⊎◌, is_some, true, if◌then◌else◌}
use Rattle.std.specs.Prelude.{List, [], ◌∷◌, ◌++◌, length, map, Contains, Option, Some, None}
use Rattle.std.specs.List.{flat_map, range_with_len}
use Rattle.sf_base.specs.declared.ids.QueueId.{QueueId}
use Rattle.sf_slots.specs.declared.calls.PlainReply.{PlainReply}
use Rattle.sf_slots.specs.declared.calls.PlainReply.TheVariants as plain
use Rattle.sf_slots.specs.History.{events}
use Rattle.sf_actor_set.specs.sf_surface.declared.call.QCall.{QCall}
use Rattle.sf_actor_set.specs.sf_surface.declared.call.QCall.TheVariants as call
use Rattle.sf_actor_set.specs.sf_surface.declared.mark.QueueMark.{QueueMark}
use Rattle.sf_actor_set.specs.sf_surface.Histories.{Left, Made, last_left, told, told_reply}
use Rattle.sf_actor_set.specs.sf_surface.Tokens.{ReadLeaseOf, turn_of}
use Rattle.sf_actor_set.specs.sf_token.Pending.{Arrival}
use Rattle.sf_actor_set.specs.sf_txn.Buffers.{Buffer}
use Rattle.sf_actor_set.specs.sf_txn.Transactions.{Contents}
use Rattle.sf_actor_set.specs.sf_actor.declared.holding.Holding.{Holding}
use Rattle.sf_actor_set.specs.sf_actor.declared.holding.Holding.TheVariants as holding
use Rattle.sf_actor_set.specs.sf_actor.Makers.{BufferOf, Maker, Run, before_attach, making_of}
use Rattle.sf_actor_set.specs.sf_actor.Holdings.{HoldingsOf}
use Rattle.sf_actor_set.specs.sf_actor.Rights.{Turn, issued_turn, turn_by}
use Rattle.sf_actor_set.specs.sf_actor.Tries.{ActorOf}
use Rattle.law_rights.specs.Ledgers.{Write}
use Rattle.law_rights.specs.Slots.{is_home_after}
use Rattle.law_rights.specs.States.{State, all_buffers}
use Rattle.law_rights.specs.Stays.{AreStays, maker_of}

-- a right, and the buffer of a queue at whose pixels it is
pub record RightAt : Type 0 where
  pub turn : Turn
  pub at : BufferOf

-- a write, and the number of the buffer of its queue from which the frame was queued
pub record WriteAt : Type 0 where
  pub write : Write
  pub number : ℕ

abbrev pub buffer_of : WriteAt → BufferOf
buffer_of queued = record { queue = queued.write.frame.0.0; number = queued.number }

-- the rights that lie somewhere, the writes that are owed, those of all frames that were queued, and the buffers that were made
pub record Places : Type 0 where
  pub live : List RightAt
  pub owed : List WriteAt
  pub queued : List WriteAt
  pub made : List ℕ

-- Buffers of queues are stays of the buffers that were made, each of which goes from stay to stay: the one in which each is or was last,
-- and those before a stay, the latest first.
pub record Stays : Type 0 where
  pub last : ℕ → BufferOf
  pub before : BufferOf → List BufferOf

abbrev pub maker_in : Stays → BufferOf → Maker
maker_in stays stay = maker_of stay (stays.before stay)

-- a call made the buffer of a queue
abbrev pub WasMade : Run → BufferOf → Type 0
WasMade run stay = is_some (making_of (run.calls stay.queue) stay.number) ≡ true

abbrev pub AreMade : Run → List BufferOf → Type 0
AreMade run [] = Unit {0}
AreMade run (stay ∷ stays) = WasMade run stay × AreMade run stays

-- a run made a stay and those before it, and they are so many at most
pub record IsTraced (run : Run) (most : ℕ) (stays : Stays) (stay : BufferOf) : Type 0 where
  pub was_made : AreMade run (stay ∷ stays.before stay)
  pub follows : AreStays run stay (stays.before stay)
  pub few : length (stays.before stay) ≤ most

-- a stay of a buffer: the last one, or an older one of the same maker
pub record IsStay (run : Run) (most : ℕ) (stays : Stays) (buffer : ℕ) (stay : BufferOf) : Type 0 where
  pub traced : IsTraced run most stays stay
  pub one_maker : (maker_in stays stay).made ≡ (maker_in stays (stays.last buffer)).made
  pub age : ((maker_in stays stay).age < (maker_in stays (stays.last buffer)).age) ⊎ (stay ≡ stays.last buffer)

-- the age, or at the same age the frame, is less
abbrev pub Rises : Stays → WriteAt → WriteAt → Type 0
Rises stays one other =
    ((maker_in stays (buffer_of one)).age < (maker_in stays (buffer_of other)).age)
    ⊎ (((maker_in stays (buffer_of one)).age ≡ (maker_in stays (buffer_of other)).age) × one.write.frame.1 < other.write.frame.1)

-- Each made buffer is followed back through its stays, and no two come to one maker; each right that lies somewhere is at the last stay of
-- its buffer; each frame was queued in a stay of its buffer, and in one turn no two; and ages and frames rise with the turns.
pub record AreFollowed (run : Run) (most : ℕ) (stays : Stays) (places : Places) : Type 0 where
  pub made : (buffer : ℕ) → Contains places.made buffer → IsTraced run most stays (stays.last buffer)
  pub apart : (buffer other : ℕ) → Contains places.made buffer → Contains places.made other
      → (maker_in stays (stays.last buffer)).made ≡ (maker_in stays (stays.last other)).made → buffer ≡ other
  pub live : (right : RightAt) → Contains places.live right → right.at ≡ stays.last right.turn.0
  pub queued : (write : WriteAt) → Contains places.queued write → IsStay run most stays write.write.turn.0 (buffer_of write)
  pub once : (one other : WriteAt) → Contains places.queued one → Contains places.queued other → one.write.turn ≡ other.write.turn → one ≡ other
  pub rises : (one other : WriteAt) → Contains places.queued one → Contains places.queued other
      → one.write.turn.0 ≡ other.write.turn.0 → one.write.turn.1 < other.write.turn.1
      → Rises stays one other
  pub owed : (write : WriteAt) → Contains places.owed write → Contains places.queued write

-- a later run says the same of each buffer of a queue that was made
pub record GoesOn (old new : Run) : Type 0 where
  pub made : (stay : BufferOf) → WasMade old stay → WasMade new stay
  pub same : (stay : BufferOf) → WasMade old stay
      → before_attach new stay (making_of (new.calls stay.queue) stay.number) ≡ before_attach old stay (making_of (old.calls stay.queue) stay.number)

-- the rights of leases, and where they are
abbrev pub right_read : ReadLeaseOf → RightAt
right_read lease = record { turn = turn_by lease.turn; at = record { queue = lease.queue.0; number = lease.held.number } }

abbrev pub right_shown : Buffer ReadLeaseOf → RightAt
right_shown buffer = right_read buffer.lease

abbrev pub places_sent : Contents ReadLeaseOf → List RightAt
places_sent txn = map right_shown txn.buffers

abbrev pub places_arrived : Arrival ReadLeaseOf → List RightAt
places_arrived arrived = places_sent arrived.txn

abbrev pub places_in : Option (Contents ReadLeaseOf) → List RightAt
places_in None = []
places_in (Some txn) = places_sent txn

-- the right that was left last in a slot of a queue
abbrev pub place_left : QueueMark → Option Left → List RightAt
place_left mark None = []
place_left mark (Some left) = record { turn = turn_by left.turn; at = record { queue = mark.queue.0; number = left.held.number } } ∷ []

module _ {B : Type 0} where
  -- the right that a name holds, and the write that it owes
  abbrev pub place_of : Option (Holding B) → List RightAt
  place_of (Some (holding.Lends lease)) = record { turn = turn_by (turn_of lease.work); at = record { queue = lease.queue.0; number = lease.held.number } } ∷ []
  place_of (Some (holding.Reads lease)) = right_read lease ∷ []
  place_of (Some (holding.Frees queue loose)) = record { turn = turn_by loose.turn; at = record { queue = queue.0; number = loose.held.number } } ∷ []
  place_of other = []

  abbrev pub place_owed : Option (Holding B) → List WriteAt
  place_owed (Some (holding.Owes owing held)) = record { write = record { turn = issued_turn owing.turn; frame = (owing.queue, owing.frame) }; number = held.number } ∷ []
  place_owed other = []

  abbrev pub places_held : HoldingsOf B → List RightAt
  places_held parts = flat_map place_of parts.names ++ flat_map places_in parts.transactions

  abbrev pub places_owed : HoldingsOf B → List WriteAt
  places_owed parts = flat_map place_owed parts.names

  -- the rights that lie in the 64 slots of a queue
  abbrev pub place_lying : QueueMark → List (Made B) → ℕ → List RightAt
  place_lying mark calls s = if is_home_after (events (told mark calls)) s then place_left mark (last_left calls s) else []

  unfoldable pub places_lying : QueueMark → List (Made B) → List RightAt
  places_lying mark calls = flat_map (place_lying mark calls) (range_with_len 0 64)

  -- the write of a frame that a call queues, and those of all calls on a queue
  abbrev pub place_written : QueueId → QCall B → PlainReply → List WriteAt
  place_written queue (call.Queue lease picture time crop fence) (plain.Queued frame) =
      record { write = record { turn = turn_by (turn_of lease.work); frame = (queue, frame) }; number = lease.held.number } ∷ []
  place_written queue asked answered = []

  abbrev pub places_written : QueueMark → List (Made B) → List WriteAt
  places_written mark [] = []
  places_written mark (made ∷ earlier) = place_written mark.queue made.call.1 (told_reply mark earlier made.by made.call.1) ++ places_written mark earlier

  -- those of a state
  abbrev pub places_out : State B → List RightAt
  places_out state = flat_map (λ (actor : ActorOf B). places_held actor.parts) state.actors ++ flat_map places_arrived state.waiting ++ map right_read state.on

  abbrev pub places_of : State B → Places
  places_of state = record {
    live = flat_map (λ (mark : QueueMark). places_lying mark (state.view.calls mark.queue.0)) state.marks ++ places_out state;
    owed = flat_map (λ (actor : ActorOf B). places_owed actor.parts) state.actors;
    queued = flat_map (λ (mark : QueueMark). places_written mark (state.view.calls mark.queue.0)) state.marks;
    made = all_buffers state.marks state.view.calls;
  }

  -- the makers of a state are followed
  pub record MakersStand (run : Run) (most : ℕ) (state : State B) : Type 0 where
    pub stays : Stays
    pub are : AreFollowed run most stays (places_of state)
