-- What a turn has in hand: its parts, and a seat of its own with the turn's token.
use Rattle.std.specs.Arc.{arc_value}
use Rattle.std.specs.Prelude.{◌≡◌, ℕ, ◌<◌, false, List, [], Option, Some, unwrap_or}
use Rattle.atomic_table.specs.Seated.{TableId}
use Rattle.atomic_table.specs.declared.shared.Seat.{Seat}
use Rattle.sf_turns.specs.declared.parts.Parts.{Parts}
use Rattle.sf_turns.specs.declared.protocol.Home.{Home}
use Rattle.sf_turns.specs.declared.protocol.Knows.{Knows}
use Rattle.sf_turns.specs.declared.protocol.Stage.{Stage}
use Rattle.sf_turns.specs.Rule.{IsAside}
use Rattle.sf_turns.specs.Views.{IssuedView, TurnView}

module _ {P T : Type 0} where
  -- a turn after which none was issued
  abbrev pub last_turn : TableId → Parts P T → TurnView T
  last_turn table parts = record {
    table = table;
    buffer = parts.buffer;
    number = parts.number;
    expects = parts.expects;
    loads = parts.loads;
    shown = parts.shown;
  }

  -- a turn after which the next was issued
  abbrev pub issued_turn : TableId → Parts P T → IssuedView T
  issued_turn table parts = record {
    table = table;
    buffer = parts.buffer;
    number = parts.number;
    expects = parts.expects;
    promises = unwrap_or parts.promises parts.expects;
  }

  -- the seat has the token of the turn at this stage, with this promise, and these homes, and nothing else
  abbrev pub HasToken : Parts P T → Seat (Home P T) (Knows T) → Stage → Option T → List (ℕ × Home P T) → Type 0
  HasToken parts seat stage promise homes =
      (arc_value parts.table ≡ seat.table_id) × IsAside seat.me
      × (seat.me.0.token ≡ Some record { buffer = parts.buffer; number = parts.number; stage = stage; expects = parts.expects; promise = promise })
      × (seat.me.0.opens ≡ false) × (seat.me.0.stock ≡ []) × (seat.me.1 ≡ homes) × (parts.buffer < seat.table_id.slots)

  -- the same, of a turn that promised
  abbrev pub HasIssued : Parts P T → Seat (Home P T) (Knows T) → Stage → List (ℕ × Home P T) → Type 0
  HasIssued parts seat stage homes = HasToken parts seat stage parts.promises homes × (parts.promises ≡ Some (unwrap_or parts.promises parts.expects))
