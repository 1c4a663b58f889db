-- What the names and the transaction numbers of an actor hold, as far as its steps say.
use Rattle.std.specs.Prelude.{ℕ, Bool, true, false, ◌==◌, List, map, get_or, slice_set, replicate, Option, Some, None, if◌then◌else◌}
use Rattle.sf_base.specs.Fences.{Fence}
use Rattle.sf_base.specs.declared.ids.QueueId.{QueueId}
use Rattle.sf_base.specs.declared.ids.SlotId.{SlotId}
use Rattle.sf_surface.specs.sf_slots.declared.calls.ReadToken.{ReadToken}
use Rattle.sf_surface.specs.sf_slots.declared.calls.WriteToken.{WriteToken}
use Rattle.sf_surface.specs.sf_slots.declared.slot.Held.{Held}
use Rattle.sf_token.specs.sf_txn.Transactions.{Contents}

-- a frame that was queued before it was drawn: its slot and number, the fence of its dequeue, its buffer, and the number of
-- the picture that was promised
pub record OwedFrame : Type 0 where
  pub slot : SlotId
  pub frame : ℕ
  pub fence : Fence
  pub held : Held
  pub picture : ℕ

-- what a name holds, each with its queue
pub data Token : Type 0 where
  -- a buffer that the queue lent, with the number of the picture that was drawn in it since
  Lent : QueueId → WriteToken → Option ℕ → Token
  -- the drawing of a frame, which is owed
  Owing : QueueId → OwedFrame → Token
  -- a frame of the queue, or a buffer of the consumer's own, which has frame number 0
  Frame : QueueId → ReadToken → Token
  -- a buffer in no queue, which was in this one last, as this buffer
  Apart : QueueId → Held → Token

-- a frame as a transaction shows it
abbrev pub FrameOf : Type 0
FrameOf = QueueId × ReadToken

-- what each name and each transaction number holds, by its number
pub record Holdings : Type 0 where
  pub names : List (Option Token)
  pub transactions : List (Option (Contents FrameOf))

-- an actor has 32 names, from 0 on, and 64 transaction numbers, from 1 on (place 0 stays empty); they hold nothing at first
abbrev pub no_holdings : Holdings
no_holdings = record { names = replicate 32 None; transactions = replicate 65 None }

-- what a name holds
abbrev pub name_in : Holdings → ℕ → Option Token
name_in holdings name = get_or holdings.names name None

-- what a transaction number holds
abbrev pub transaction_in : Holdings → ℕ → Option (Contents FrameOf)
transaction_in holdings number = get_or holdings.transactions number None

-- a name holds something else
abbrev pub with_name : Holdings → ℕ → Option Token → Holdings
with_name holdings name token = record holdings { names = slice_set holdings.names name token }

-- what a name held is under another name, as something else
abbrev pub moved : Holdings → ℕ → ℕ → Token → Holdings
moved holdings from to token = with_name (with_name holdings from None) to (Some token)

-- a transaction number holds something else
abbrev pub with_transaction : Holdings → ℕ → Option (Contents FrameOf) → Holdings
with_transaction holdings number txn = record holdings { transactions = slice_set holdings.transactions number txn }

-- a name without the lease of this queue, if it holds one
abbrev pub unless_lent_by : ℕ → Token → Option Token
unless_lent_by queue (Lent of token drawn) = if of.0 == queue then None else Some (Lent of token drawn)
unless_lent_by queue token = Some token

-- what a name holds once the leases of this queue are dropped
abbrev pub dropped_of : ℕ → Option Token → Option Token
dropped_of queue None = None
dropped_of queue (Some token) = unless_lent_by queue token

-- all leases of a queue are dropped
abbrev pub without_leases : Holdings → ℕ → Holdings
without_leases holdings queue = record holdings { names = map (dropped_of queue) holdings.names }

-- it is a lent buffer
abbrev pub is_lent : Option Token → Bool
is_lent (Some (Lent queue token drawn)) = true
is_lent other = false

-- it is a drawing that is owed
abbrev pub is_owing : Option Token → Bool
is_owing (Some (Owing queue owed)) = true
is_owing other = false

-- it is a frame, or a buffer of the consumer's own
abbrev pub is_frame : Option Token → Bool
is_frame (Some (Frame queue token)) = true
is_frame other = false

-- it is a buffer in no queue
abbrev pub is_apart : Option Token → Bool
is_apart (Some (Apart queue held)) = true
is_apart other = false
