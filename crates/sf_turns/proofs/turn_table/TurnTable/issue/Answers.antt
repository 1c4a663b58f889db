use Rattle.std.proofs.Common.{sym, ap, ◌∙◌, arith}
use Rattle.atomic_table.specs.Table.{Me}
use Rattle.sf_turns.specs.declared.protocol.Knows.{Knows}
use Rattle.sf_turns.specs.declared.protocol.Home.{Home}
use Rattle.sf_turns.specs.declared.protocol.Home.TheVariants.{Said}
use mathlib.Core.Option.{some}
use Rattle.sf_turns.proofs.Steps.{says_last, splits_heir}
use Rattle.sf_turns.proofs.turn_table.TurnTable.issue.Goals as goal

pub compare_exchange_with-requires : goal.compare_exchange_with-requires
compare_exchange_with-requires g c = let i = c.self.invariant in let l = c.slot_count-last.ensures in (
  c.requires.own ∙ sym c.self.view_is,
  omega arith,
  says_last g.P.Stamped.stamp_of _ _ _ _ _ (some (Said c.args.leaves)) (omega arith) (omega arith),
)

pub split_seat-heir-requires : goal.split_seat-heir-requires
split_seat-heir-requires g c = let i = c.self.invariant in let e = c.compare_exchange_with.ensures in let t = c.requires.token in
    let M : Type 0 = Me (Home g.row.P.Denot g.row.P-Stamp.Denot) (Knows g.row.P-Stamp.Denot) in (
      e.0 ∙ (c.requires.own ∙ sym c.self.view_is),
      omega arith,
      splits_heir g.P.Stamped.stamp_of _ 0 _ c.compare_exchange_with.new.seat.me t.0 (ap (λ (m : M). m.0.token) e.2 ∙ t.1) c.args.leaves (ap (λ (m : M). m.0.said) e.2) (ap (λ (m : M). m.0.is_first) e.2 ∙ c.requires.aside) t.2 t.3 t.4,
    )
