-- The one order in which transactions arrive.
use Rattle.std.specs.Prelude.{◌≡◌, ℕ, ◌+◌, ◌≤◌, Bool, true, false, if◌then◌else◌, List, [], ◌∷◌, ◌++◌, map, length}
use Rattle.std.specs.List.{All}
use Rattle.std.specs.declared.snapshot.Snapshot.{Snapshot}
use Rattle.sf_calls.specs.Histories.{IsLegal, entry}
use Rattle.sf_calls.specs.declared.object.Answer.{Answer}
use Rattle.sf_calls.specs.declared.object.Answer.TheVariants.{Replies, Waits}
use Rattle.sf_calls.specs.declared.object.Entry.{Entry}
use Rattle.sf_txn.specs.Buffers.{Buffer}
use Rattle.sf_token.specs.declared.arrivals.ArriveCall.{ArriveCall}
use Rattle.sf_token.specs.declared.arrivals.ArriveCall.TheVariants as call
use Rattle.sf_token.specs.declared.arrivals.ArriveReply.{ArriveReply}
use Rattle.sf_token.specs.declared.arrivals.ArriveReply.TheVariants as reply
use Rattle.sf_token.specs.declared.arrivals.ArrvEntry.{ArrvEntry}
use Rattle.sf_token.specs.Pending.{Arrival}

-- the calls on the arrivals, the newest first
abbrev pub Calls : Type 0 → Type 0 → Type 0 → Type 0 → Type 0
Calls L E R C = List (Entry (ArriveCall L E R C) (ArriveReply L E R C))

module _ {L : Type 0} where
  -- what is shown of a transaction that arrived
  abbrev pub entry_of : Arrival L → ArrvEntry
  entry_of arrived = record { actor = arrived.actor; step = arrived.step; token = arrived.txn.token }

  -- the leases of a transaction are ones that belong here
  abbrev pub HoldsAll : (L → Type 0) → List (Buffer L) → Type 0
  HoldsAll holds buffers = All (λ buffer. holds buffer.lease) buffers

  abbrev pub AreHeld : (L → Type 0) → List (Arrival L) → Type 0
  AreHeld holds list = All (λ arrived. HoldsAll holds arrived.txn.buffers) list

module _ {L E R C : Type 0} where
  -- a call as it was made
  abbrev pub made : Entry (Snapshot (ArriveCall L E R C)) (Snapshot (ArriveReply L E R C)) → Entry (ArriveCall L E R C) (ArriveReply L E R C)
  made e = entry e.by e.call.value e.reply.value

  -- the transaction that a call sends, with its number
  abbrev pub arrival : ℕ → Entry (ArriveCall L E R C) (ArriveReply L E R C) → List (Arrival L)
  arrival number e = by_call e.call
    where
      by_call : ArriveCall L E R C → List (Arrival L)
      by_call (call.Send step txn) = record { number = number; actor = record { 0 = e.by }; step = step; txn = txn } ∷ []
      by_call call.Take = []

  -- all transactions that were sent, in the order in which they arrived
  abbrev pub sent : Calls L E R C → List (Arrival L)
  sent [] = []
  sent (e ∷ earlier) = sent earlier ++ arrival (length (sent earlier) + 1) e

  abbrev pub is_take : ArriveCall L E R C → Bool
  is_take (call.Send step txn) = false
  is_take call.Take = true

  -- what was sent since the last `Take`, in order
  abbrev pub waiting : Calls L E R C → List (Arrival L)
  waiting [] = []
  waiting (e ∷ earlier) = if is_take e.call then [] else waiting earlier ++ arrival (length (sent earlier) + 1) e

  -- what the arrivals of one thread answer to a caller's call after these calls
  abbrev pub AnswersCall : Calls L E R C → ℕ → ArriveCall L E R C → Answer (ArriveReply L E R C) → Type 0
  AnswersCall earlier by (call.Send step txn) (Replies (reply.Number number)) = number ≡ length (sent earlier) + 1
  AnswersCall earlier by (call.Send step txn) (Replies (reply.Batch list)) = ⊥
  AnswersCall earlier by call.Take (Replies (reply.Batch list)) = list ≡ waiting earlier
  AnswersCall earlier by call.Take (Replies (reply.Number number)) = ⊥
  AnswersCall earlier by asked Waits = ⊥

  module _ (holds : L → Type 0) where
    abbrev pub BringsHeld : ArriveCall L E R C → Type 0
    BringsHeld (call.Send step txn) = HoldsAll holds txn.buffers
    BringsHeld call.Take = Unit {0}

    abbrev pub GivesHeld : ArriveReply L E R C → Type 0
    GivesHeld (reply.Number number) = Unit {0}
    GivesHeld (reply.Batch list) = AreHeld holds list

    -- what the arrivals keep beside the history of their calls
    pub record IsArrivals (calls : Calls L E R C) (list : List (Arrival L)) (entries : List ArrvEntry) : Type 0 where
      pub legal : IsLegal AnswersCall calls
      pub waits : list ≡ waiting calls
      pub told : entries ≡ map entry_of (sent calls)
      pub held : AreHeld holds list
      pub few : length entries ≤ 4294967295
