use Rattle.std.proofs.Common.{sym, ◌∙◌, arith}
use Rattle.sf_turns.proofs.Steps.{absorbs, audits}
use Rattle.sf_turns.proofs.turn_table.TurnTable.join.Goals as goal

pub join_seat-requires : goal.join_seat-requires
join_seat-requires g c = let i = c.self.invariant in let b = c.requires.bare in (
  c.requires.own.0 ∙ sym c.self.view_is,
  c.requires.own.1 ∙ sym c.self.view_is,
  b.2,
  omega arith,
  absorbs g.P.Stamped.stamp_of _ _ _ _ _ c.requires.readers.0 c.requires.readers.1 b.0 b.1,
)

pub load-requires : goal.load-requires
load-requires g c = let i = c.self.invariant in (
  c.join_seat.ensures.0 ∙ (c.requires.own.0 ∙ sym c.self.view_is),
  omega arith,
  audits g.P.Stamped.stamp_of _ _ _ _ _,
)
