-- A ledger of the turns at buffers: which rights lie somewhere, which drawings are owed, and which turns have left.
use Rattle.std.specs.Prelude.{◌≡◌, ℕ, ◌<◌, ◌≤◌, ◌⊎◌, List, Contains}
use Rattle.sf_actor_set.specs.sf_turns.Counts.{leaves_of}
use Rattle.sf_actor_set.specs.sf_actor.Rights.{Turn}
use Rattle.sf_actor_set.specs.sf_actor.Written.{FrameNumber}

-- the write of a frame: the turn in which its picture is drawn, and the frame
pub record Write : Type 0 where
  pub turn : Turn
  pub frame : FrameNumber

-- The rights that lie somewhere, each once for each place; the writes that are owed; those of all frames that were ever queued; the
-- turns that have left; the frames whose write has ended; and the buffers that were made.
pub record Ledger : Type 0 where
  pub live : List Turn
  pub owed : List Write
  pub queued : List Write
  pub left : List Turn
  pub written : List FrameNumber
  pub made : List ℕ

-- at the same buffer a turn comes before another
abbrev pub ComesBefore : Turn → Turn → Type 0
ComesBefore turn later = turn.0 ≡ later.0 → turn.1 < later.1

-- a turn has left, or it is that of a write that is owed
abbrev pub HasLeftOrIsOwed : Ledger → Turn → Type 0
HasLeftOrIsOwed l turn = Contains l.left turn ⊎ ((write : Write) × Contains l.owed write × (write.turn ≡ turn))

-- so is each turn before this one of its buffer
abbrev pub IsSettled : Ledger → Turn → Type 0
IsSettled l turn = (k : ℕ) → k < turn.1 → HasLeftOrIsOwed l (turn.0, k)

-- What a ledger keeps.
pub record IsLedger (l : Ledger) : Type 0 where
  -- of each buffer one right lies somewhere at most; the turns that left and those of queued frames come before it
  pub one : (buffer : ℕ) → leaves_of buffer l.live ≤ 1
  pub after_left : (turn left : Turn) → Contains l.live turn → Contains l.left left → ComesBefore left turn
  pub after_queued : (turn : Turn) (write : Write) → Contains l.live turn → Contains l.queued write → ComesBefore write.turn turn
  -- nothing is said of a buffer that was not made
  pub live_made : (turn : Turn) → Contains l.live turn → Contains l.made turn.0
  pub left_made : (turn : Turn) → Contains l.left turn → Contains l.made turn.0
  pub queued_made : (write : Write) → Contains l.queued write → Contains l.made write.turn.0
  -- each turn writes one frame, and each frame is written in one turn
  pub one_frame : (write other : Write) → Contains l.queued write → Contains l.queued other → write.turn ≡ other.turn → write.frame ≡ other.frame
  pub one_turn : (write other : Write) → Contains l.queued write → Contains l.queued other → write.frame ≡ other.frame → write.turn ≡ other.turn
  pub owed_queued : (write : Write) → Contains l.owed write → Contains l.queued write
  pub written_queued : (frame : FrameNumber) → Contains l.written frame → (write : Write) × Contains l.queued write × (write.frame ≡ frame)
  -- a frame is written exactly where its turn has left
  pub written_left : (write : Write) → Contains l.queued write → Contains l.written write.frame → Contains l.left write.turn
  pub left_written : (write : Write) → Contains l.queued write → Contains l.left write.turn → Contains l.written write.frame
  -- of the turns before one that lies somewhere or is owed, each has left or is owed
  pub live_settled : (turn : Turn) → Contains l.live turn → IsSettled l turn
  pub owed_settled : (write : Write) → Contains l.owed write → IsSettled l write.turn
