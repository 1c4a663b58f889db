use Rattle.std.proofs.Common.{sym, ◌∙◌, arith}
use Rattle.sf_turns.proofs.Steps.{endows}
use Rattle.sf_turns.proofs.turn_table.TurnTable.endow.Goals as goal

pub split_seat-requires : goal.split_seat-requires
split_seat-requires g c = let i = c.self.invariant in (
  c.requires.own ∙ sym c.self.view_is,
  omega arith,
  endows g.P.Stamped.stamp_of _ _ _ c.requires.closed,
)
