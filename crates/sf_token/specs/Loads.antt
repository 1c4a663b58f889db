-- What looks make of pending transactions, and what they show.
use Rattle.std.specs.Prelude.{◌≡◌, List, map}
use Rattle.std.specs.List.{All, AllZip}
use Rattle.sf_txn.specs.Leases.{IsLookedBuffer}
use Rattle.sf_txn.specs.declared.lease.Lease.{Ghosts}
use Rattle.sf_token.specs.Pending.{Arrival}
use Rattle.sf_token.specs.declared.looks.Looks.{Looks}

-- the leases of transactions
abbrev pub AllLeases : {L : Type 0} → (L → Type 0) → List (Arrival L) → Type 0
AllLeases P list = All (λ arrived. All (λ buffer. P buffer.lease) arrived.txn.buffers) list

module _ {L E R C : Type 0} (lease : Ghosts L E R C) where
  -- a transaction whose leases were looked at
  pub record IsLookedArrival (old new : Arrival L) : Type 0 where
    pub number : new.number ≡ old.number
    pub actor : new.actor ≡ old.actor
    pub step : new.step ≡ old.step
    pub buffers : AllZip (IsLookedBuffer lease) old.txn.buffers new.txn.buffers
    pub rest : new.txn ≡ record old.txn { buffers = new.txn.buffers }

  -- what the last looks at a transaction's buffers showed, in their order
  abbrev pub looks_at : Arrival L → Looks
  looks_at arrived = record { number = arrived.number; drawn = map (λ buffer. lease.shown buffer.lease) arrived.txn.buffers }

  abbrev pub looks_of : List (Arrival L) → List Looks
  looks_of pending = map looks_at pending
