-- Looks at what the keys of slots have, for which there is room.
use Rattle.std.specs.Prelude.{◌≡◌, ℕ, ◌≤◌, List, [], Option, Some, IsSome, length}
use Rattle.std.specs.List.{All, AllZip}
use Rattle.std.specs.Option.{IfSome}
use Rattle.sf_txn.specs.Leases.{IsEyeAfter, IsShownTo}
use Rattle.sf_txn.specs.declared.lease.Lease.{Ghosts}
use Rattle.sf_token.specs.Loads.{AllLeases, IsLookedArrival, looks_at, looks_of}
use Rattle.sf_token.specs.Pending.{Arrival}
use Rattle.sf_token.specs.Slots.{picked}
use Rattle.sf_token.specs.declared.looks.Looks.{Looks}

module _ {L : Type 0} where
  -- the slot has a transaction, and an empty list room for its buffers
  pub record HasRoom (slot : Option (Arrival L)) (len capacity : ℕ) : Type 0 where
    pub empty : len ≡ 0
    pub taken : IsSome slot
    pub room : IfSome slot (λ arrived. length arrived.txn.buffers ≤ capacity)

  -- the leases of what a slot has
  abbrev pub Fits : (L → Type 0) → Option (Arrival L) → Type 0
  Fits P slot = IfSome slot (λ arrived. All (λ buffer. P buffer.lease) arrived.txn.buffers)

module _ {L E R C : Type 0} (lease : Ghosts L E R C) (before after : E) where
  -- what a slot had was looked at
  pub record IsLookedSlot (old new : Option (Arrival L)) (looks : Looks) : Type 0 where
    pub from : Arrival L
    pub to : Arrival L
    pub had : old ≡ Some from
    pub has : new ≡ Some to
    pub looked : IsLookedArrival lease from to
    pub told : All (λ buffer. IsShownTo lease before after buffer.lease) to.txn.buffers
    pub told_by : looks ≡ looks_at lease to

  -- what these keys have was looked at
  pub record AreLooked (old new : ℕ → Option (Arrival L)) (keys : List ℕ) (looks : List Looks) : Type 0 where
    pub looked : AllZip (IsLookedArrival lease) (picked old keys) (picked new keys)
    pub told : AllLeases (IsShownTo lease before after) (picked new keys)
    pub told_by : looks ≡ looks_of lease (picked new keys)
    pub kept : (key : ℕ) → IsSome (old key) → IsSome (new key)
    pub eye : IsEyeAfter lease before after []
