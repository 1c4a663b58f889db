use Rattle.std.proofs.Common.{sym, ap, ◌∙◌, arith}
use Rattle.atomic_table.specs.Table.{Me}
use Rattle.sf_turns.specs.declared.protocol.Knows.{Knows}
use Rattle.sf_turns.specs.declared.protocol.Home.{Home}
use Rattle.sf_turns.proofs.Steps.{cuts, asks_last}
use Rattle.sf_turns.proofs.turn_table.TurnTable.cut.Goals as goal

pub swap-requires : goal.swap-requires
swap-requires g c = let i = c.self.invariant in let l = c.slot_count-last.ensures in (
  c.requires.own ∙ sym c.self.view_is,
  omega arith,
  asks_last g.P.Stamped.stamp_of _ _ _ _ _ _ (omega arith),
)

pub split_seat-requires : goal.split_seat-requires
split_seat-requires g c = let i = c.self.invariant in let e = c.swap.ensures in
    let M : Type 0 = Me (Home g.row.P.Denot g.row.P-Stamp.Denot) (Knows g.row.P-Stamp.Denot) in (
      e.0 ∙ (c.requires.own ∙ sym c.self.view_is),
      omega arith,
      cuts g.P.Stamped.stamp_of _ _ _ (ap (λ (m : M). m.0.opens) e.2 ∙ c.requires.closed),
    )
