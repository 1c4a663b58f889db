use Rattle.std.proofs.Common.{sym, ap, ◌∙◌, arith}
use Rattle.atomic_table.specs.Seated.{TableId}
use Rattle.sf_turns.proofs.Steps.{loads}
use Rattle.sf_turns.proofs.turn_table.TurnTable.load_leaves.Goals as goal

pub load-requires : goal.load-requires
load-requires g c = let e = ap (λ (z : TableId). z.slots) c.self.view_is in let i = c.self.invariant in let l = c.requires.range in (
  c.requires.own ∙ sym c.self.view_is,
  omega arith,
  loads g.P.Stamped.stamp_of _ _ _ _ _ (omega arith),
)
