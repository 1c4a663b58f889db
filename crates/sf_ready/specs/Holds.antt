-- Why the first pending transaction of a token does not commit.
use Rattle.std.specs.Prelude.{ℕ, ◌+◌, nat_lt, nat_le, Bool, not, ◌&&◌, if◌then◌else◌, List, [], ◌∷◌, Option, Some, None}
use Rattle.std.specs.List.{find}
use Rattle.std.specs.Option.{option_map, option_or}
use Rattle.sf_base.specs.Fences.{first_open_of}
use Rattle.sf_base.specs.declared.fences.Seen.{Seen}
use Rattle.sf_base.specs.declared.ids.LayerId.{LayerId}
use Rattle.sf_txn.specs.Buffers.{Buffer}
use Rattle.sf_txn.specs.Transactions.{Contents}
use Rattle.sf_ready.specs.Facts.{FactsOf, is_met, has_layer}
use Rattle.sf_ready.specs.declared.hold.Hold.{Hold}
use Rattle.sf_ready.specs.declared.hold.Hold.TheVariants as hold

-- the number of a hold in records
abbrev pub number_of : Hold → ℕ
number_of hold.Behind = 1
number_of (hold.Time _) = 2
number_of (hold.Fence _ _) = 3
number_of (hold.Undrawn _ _) = 4
number_of (hold.Barrier _ _) = 5
number_of (hold.Pressure _) = 6

-- the desired present time is to come, and at most a second ahead; one further ahead counts as come
abbrev pub time_hold : Option ℕ → ℕ → Option Hold
time_hold None expected = None
time_hold (Some desired) expected =
    if nat_lt expected desired && nat_le desired (expected + 1000000000) then Some (hold.Time desired) else None

-- the lowest timeline with a point of the fence that is not signalled
abbrev pub point_hold : Option (ℕ × ℕ) → Option Hold
point_hold point = option_map (λ p. hold.Fence (record { 0 = p.0 }) p.1) point

module _ {L : Type 0} where
  -- the first buffer with a point that is not signalled
  abbrev pub fence_hold : List (Buffer L) → Seen → Option Hold
  fence_hold [] seen = None
  fence_hold (buffer ∷ buffers) seen = option_or (point_hold (first_open_of buffer.fence seen)) (fence_hold buffers seen)

  -- the first buffer whose write has not ended
  abbrev pub undrawn_hold : List (Buffer L) → List Bool → Option Hold
  undrawn_hold [] drawn = None
  undrawn_hold (buffer ∷ buffers) [] = None
  undrawn_hold (buffer ∷ buffers) (drawn ∷ others) =
      if drawn then undrawn_hold buffers others else Some (hold.Undrawn buffer.shown.queue buffer.shown.frame)

  -- where the time is automatic: the first buffer for a layer that has backpressure and got a buffer in this vsync
  abbrev pub pressure_hold : Option ℕ → List (Buffer L) → List ℕ → List ℕ → Option Hold
  pressure_hold (Some desired) buffers fresh pressed = None
  pressure_hold None buffers fresh pressed =
      option_map (λ buffer. hold.Pressure buffer.layer) (find (λ buffer. has_layer fresh buffer.layer && has_layer pressed buffer.layer) buffers)

-- the first barrier that is not met
abbrev pub barrier_hold : List (LayerId × ℕ) → List (ℕ × ℕ) → Option Hold
barrier_hold barriers frames =
    option_map (λ barrier. hold.Barrier barrier.0 barrier.1) (find (λ barrier. not (is_met frames barrier)) barriers)

-- the first of these that holds the transaction, at this expected present time, or none
unfoldable pub hold_of : {L : Type 0} → Contents L → List Bool → FactsOf → Seen → ℕ → Option Hold
hold_of txn drawn facts seen expected =
    option_or (time_hold txn.desired expected)
    (option_or (fence_hold txn.buffers seen)
    (option_or (undrawn_hold txn.buffers drawn)
    (option_or (barrier_hold txn.barriers facts.frames)
    (pressure_hold txn.desired txn.buffers facts.fresh facts.pressed))))
