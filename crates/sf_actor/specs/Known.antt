-- What is known of a run: the calls on each queue with their tokens, the arrivals, what was seen of the timelines, the
-- signals that were made, the turns that were left, and how many turns of a buffer were seen to have left.
use Rattle.std.specs.Prelude.{◌≡◌, ℕ, ◌≤◌, ◌==◌, Bool, true, false, if◌then◌else◌, List, [], ◌∷◌, ◌++◌, filter, map, Contains}
use Rattle.std.specs.List.{list_any}
use Rattle.sf_base.specs.Fences.{value_of}
use Rattle.sf_base.specs.Points.{greatest}
use Rattle.sf_base.specs.declared.fences.Seen.{Seen}
use Rattle.sf_token.specs.sf_calls.Histories.{GoesOnWithout}
use Rattle.sf_surface.specs.sf_slots.declared.calls.Entry.{Entry}
use Rattle.sf_surface.specs.declared.mark.QueueMark.{QueueMark}
use Rattle.sf_surface.specs.Histories.{Made, told, told_entry}
use Rattle.sf_surface.specs.Tokens.{ReadLeaseOf}
use Rattle.sf_token.specs.Pending.{Arrival}
use Rattle.sf_token.specs.sf_txn.Buffers.{Buffer}
use Rattle.sf_token.specs.sf_txn.Transactions.{Contents}
use Rattle.sf_actor.specs.Names.{FrameOf}
use Rattle.sf_actor.specs.ScriptTraces.{OwnOf}

-- the queues' marks and calls by the numbers of queues, the newest call first; whether a sender learns its place; and the
-- arrivals in order
pub record Known (B : Type 0) : Type 0 where
  pub marks : ℕ → QueueMark
  pub tells : Bool
  pub calls : ℕ → List (Made B)
  pub arrivals : List (Arrival ReadLeaseOf)
  pub values : Seen
  pub signals : List (ℕ × ℕ)
  pub left : List (ℕ × ℕ)
  pub counts : List (ℕ × ℕ)

-- a call with what it reports, without rights
pub record Call (B : Type 0) : Type 0 where
  pub made : Made B
  pub told : Entry

module _ {B : Type 0} where
  -- a call with what it reports after the calls before it
  abbrev pub call_after : QueueMark → List (Made B) → Made B → Call B
  call_after mark earlier made = record { made = made; told = told_entry mark (told mark earlier) made }

  -- the calls of one actor on a queue, in the order in which it made them
  abbrev pub own_calls : ℕ → QueueMark → List (Made B) → List (Call B)
  own_calls actor mark [] = []
  own_calls actor mark (made ∷ earlier) = own_calls actor mark earlier ++ (if made.by == actor then call_after mark earlier made ∷ [] else [])

-- what of it is one actor's: its calls on each queue and its arrivals; and what was seen, signalled and left
pub record Share (B : Type 0) : Type 0 where
  pub calls : ℕ → List (Call B)
  pub arrivals : List (Arrival ReadLeaseOf)
  pub values : Seen
  pub signals : List (ℕ × ℕ)
  pub left : List (ℕ × ℕ)
  pub counts : List (ℕ × ℕ)

abbrev pub is_sent_by : ℕ → Arrival ReadLeaseOf → Bool
is_sent_by actor arrived = arrived.actor.0 == actor

-- the number that a sender gets for its transaction: its place among the arrivals, or 0 where no place is reported
abbrev pub number_told : Bool → ℕ → ℕ
number_told true number = number
number_told false number = 0

-- arrivals with the numbers that their senders got
abbrev pub arrivals_told : {L : Type 0} → Bool → List (Arrival L) → List (Arrival L)
arrivals_told true arrivals = arrivals
arrivals_told {L} false arrivals = map (λ (arrived : Arrival L). record arrived { number = 0 }) arrivals

module _ {B : Type 0} where
  abbrev pub share_of : ℕ → Known B → Share B
  share_of actor known = record {
    calls = λ queue. own_calls actor (known.marks queue) (known.calls queue);
    arrivals = arrivals_told known.tells (filter (is_sent_by actor) known.arrivals);
    values = known.values;
    signals = known.signals;
    left = known.left;
    counts = known.counts;
  }

-- what a frame is, without its right
abbrev pub frame_of : ReadLeaseOf → FrameOf
frame_of lease = (lease.queue, record { slot = lease.slot; frame = lease.frame; held = lease.held; picture = lease.picture; crop = lease.crop; fence = lease.fence })

abbrev pub plain_buffer : Buffer ReadLeaseOf → Buffer FrameOf
plain_buffer buffer = record { layer = buffer.layer; shown = buffer.shown; fence = buffer.fence; lease = frame_of buffer.lease }

abbrev pub plain_txn : Contents ReadLeaseOf → Contents FrameOf
plain_txn txn = record { token = txn.token; desired = txn.desired; ops = txn.ops; buffers = map plain_buffer txn.buffers; barriers = txn.barriers }

abbrev pub plain_arrival : Arrival ReadLeaseOf → Arrival FrameOf
plain_arrival arrived = record { number = arrived.number; actor = arrived.actor; step = arrived.step; txn = plain_txn arrived.txn }

module _ {B : Type 0} where
  abbrev pub told_by : Call B → Entry
  told_by made = made.told

  -- what is one actor's, without rights
  abbrev pub own_of : Share B → OwnOf
  own_of share = record { calls = λ queue. map told_by (share.calls queue); arrivals = map plain_arrival share.arrivals; values = share.values }

-- each of these is among those
abbrev pub AreAmong : List (ℕ × ℕ) → List (ℕ × ℕ) → Type 0
AreAmong these those = (p : ℕ × ℕ) → Contains these p → Contains those p

-- of no buffer were fewer turns seen to have left
abbrev pub CountsRise : List (ℕ × ℕ) → List (ℕ × ℕ) → Type 0
CountsRise old new = (buffer : ℕ) → greatest buffer old ≤ greatest buffer new

-- no value of a timeline fell
abbrev pub Rise : Seen → Seen → Type 0
Rise old new = (t : ℕ) → 1 ≤ t → t ≤ 64 → value_of old.values t ≤ value_of new.values t

-- the arrivals go on, with none of the actor's
pub record ArriveWithout (actor : ℕ) (old new : List (Arrival ReadLeaseOf)) : Type 0 where
  pub later : List (Arrival ReadLeaseOf)
  pub joined : new ≡ old ++ later
  pub none : list_any (is_sent_by actor) later ≡ false

-- what is known grows without an entry of the actor
pub record GoesOn {B : Type 0} (actor : ℕ) (old new : Known B) : Type 0 where
  pub marks : (queue : ℕ) → new.marks queue ≡ old.marks queue
  pub tells : new.tells ≡ old.tells
  pub calls : (queue : ℕ) → GoesOnWithout actor (old.calls queue) (new.calls queue)
  pub arrivals : ArriveWithout actor old.arrivals new.arrivals
  pub values : Rise old.values new.values
  pub signals : AreAmong old.signals new.signals
  pub left : AreAmong old.left new.left
  pub counts : CountsRise old.counts new.counts

-- a share grows: the actor's own calls and arrivals stay, the values and the counts rise, and signals and turns are added
pub record ShareGoesOn {B : Type 0} (old new : Share B) : Type 0 where
  pub calls : (queue : ℕ) → new.calls queue ≡ old.calls queue
  pub arrivals : new.arrivals ≡ old.arrivals
  pub values : Rise old.values new.values
  pub signals : AreAmong old.signals new.signals
  pub left : AreAmong old.left new.left
  pub counts : CountsRise old.counts new.counts
