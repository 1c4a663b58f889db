-- What contracts see of a seat.
use Rattle.atomic_table.specs.Seated.{TableId}
use Rattle.sf_times.specs.declared.protocol.Knows.{Knows}

-- the table that the seat is of, and what it knows
pub record SeatView : Type 0 where
  pub table : TableId
  pub knows : Knows
