-- What holds the first transaction of a token, and whether it is ready.
use Rattle.std.specs.Prelude.{ℕ, Bool, if◌then◌else◌, List, map, Option, Some, None, is_none}
use Rattle.sf_base.specs.declared.fences.Seen.{Seen}
use Rattle.sf_base.specs.declared.ids.TokenId.{TokenId}
use Rattle.sf_token.specs.sf_txn.Buffers.{Buffer}
use Rattle.sf_ready.specs.Facts.{FactsOf}
use Rattle.sf_ready.specs.Holds.{hold_of}
use Rattle.sf_ready.specs.declared.hold.Hold.{Hold}
use Rattle.sf_token.specs.Pending.{Arrival, head_of}

module _ {L : Type 0} (drawn : L → Bool) (seen : Seen) (expected : ℕ) where
  -- why the first transaction of a token waits, where `drawn` says of a lease whether its write has ended
  abbrev pub head_hold : FactsOf → Arrival L → Option Hold
  head_hold facts arrived = hold_of arrived.txn (map (λ (buffer : Buffer L). drawn buffer.lease) arrived.txn.buffers) facts seen expected

  -- a transaction, where nothing holds it
  abbrev pub ready_if : FactsOf → Option (Arrival L) → Option (Arrival L)
  ready_if facts None = None
  ready_if facts (Some arrived) = if is_none (head_hold facts arrived) then Some arrived else None

  -- the first transaction of a token, where nothing holds it
  abbrev pub ready_of : FactsOf → List (Arrival L) → TokenId → Option (Arrival L)
  ready_of facts pending token = ready_if facts (head_of token pending)
