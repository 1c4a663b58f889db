use Rattle.std.proofs.Common.{sym, ◌∙◌, arith}
use Rattle.sf_turns.proofs.Steps.{lends}
use Rattle.sf_turns.proofs.turn_table.TurnTable.split.Goals as goal

pub split_seat-requires : goal.split_seat-requires
split_seat-requires g c = let i = c.self.invariant in (
  c.requires.own ∙ sym c.self.view_is,
  omega arith,
  lends g.P.Stamped.stamp_of _ _ _ c.requires.first.0 c.requires.first.1,
)
