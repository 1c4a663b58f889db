-- Why each pending transaction waits, and the looks by which all that is pending is gone over.
use Rattle.std.specs.Prelude.{◌≡◌, ℕ, ◌==◌, ◌⊎◌, Bool, false, if◌then◌else◌, List, [], ◌∷◌, filter_map, find, map, Option, Some}
use Rattle.std.specs.Option.{IfSome, option_and_then, option_map, option_map_or}
use Rattle.sf_base.specs.declared.fences.Seen.{Seen}
use Rattle.sf_commit_next.specs.sf_ready.Facts.{FactsOf}
use Rattle.sf_commit_next.specs.sf_ready.declared.hold.Hold.{Hold}
use Rattle.sf_commit_next.specs.sf_ready.declared.hold.Hold.TheVariants as hold
use Rattle.sf_commit_next.specs.sf_txn.Buffers.{Buffer}
use Rattle.sf_commit_next.specs.sf_txn.declared.lease.Lease.{Ghosts}
use Rattle.sf_commit_next.specs.sf_token.Loads.{looks_of}
use Rattle.sf_commit_next.specs.sf_token.Pending.{Arrival, IsRisingFrom, has_number, head_of}
use Rattle.sf_commit_next.specs.sf_token.declared.looks.Looks.{Looks}
use Rattle.sf_commit_next.specs.Heads.{head_hold}

module _ {L : Type 0} where
  -- whether a transaction is the first of its token
  abbrev pub is_first : List (Arrival L) → Arrival L → Bool
  is_first pending arrived = option_map_or (λ (first : Arrival L). first.number == arrived.number) (head_of arrived.txn.token pending) false

  -- the transaction that was looked at, if it is pending
  abbrev pub found_by : List (Arrival L) → Looks → Option (Arrival L)
  found_by pending look = find (has_number look.number) pending

  module _ (drawn : L → Bool) (seen : Seen) (expected : ℕ) (facts : FactsOf) (pending : List (Arrival L)) where
    -- why a pending transaction waits, with these facts: what is not first of its token is behind that
    abbrev pub hold_in : Arrival L → Option Hold
    hold_in arrived = if is_first pending arrived then head_hold drawn seen expected facts arrived else Some hold.Behind

    abbrev pub told_in : Arrival L → Option (ℕ × Hold)
    told_in arrived = option_map (λ h. (arrived.number, h)) (hold_in arrived)

    -- what is reported of the transaction that was looked at
    abbrev pub told_by : Looks → Option (ℕ × Hold)
    told_by look = option_and_then told_in (found_by pending look)

    -- all that waits, by its number in the order of arrival, and why
    abbrev pub held_of : List (ℕ × Hold)
    held_of = filter_map told_in pending

-- a list is part of another: some items are left out, the others stand in the same order
abbrev pub IsPart : {A : Type 0} → List A → List A → Type 0
IsPart [] all = Unit {0}
IsPart (x ∷ xs) [] = ⊥
IsPart (x ∷ xs) (y ∷ ys) = ((x ≡ y) × IsPart xs ys) ⊎ IsPart (x ∷ xs) ys

module _ {L E R C : Type 0} (lease : Ghosts L E R C) where
  -- a look showed what the leases show of the transaction that was looked at, if it is pending
  abbrev pub IsFoundDrawn : List (Arrival L) → Looks → Type 0
  IsFoundDrawn pending look = IfSome (found_by pending look) (λ (a : Arrival L). look.drawn ≡ map (λ (b : Buffer L). lease.shown b.lease) a.txn.buffers)

  -- the looks are those at a list of transactions, in the order of arrival, and what is pending is part of that list
  pub record AreLooks (looks : List Looks) (pending : List (Arrival L)) : Type 0 where
    pub looked : List (Arrival L)
    pub last : ℕ
    pub same : looks ≡ looks_of lease looked
    pub rising : IsRisingFrom 0 looked last
    pub part : IsPart pending looked
