use Rattle.std.proofs.Common.{ℕ, List, sym, ap, ◌∙◌, arith}
use Rattle.atomic_table.specs.Seated.{TableId}
use Rattle.atomic_table.specs.Table.{Me}
use Rattle.sf_turns.specs.declared.protocol.Knows.{Knows}
use Rattle.sf_turns.specs.declared.protocol.Home.{Home}
use Rattle.sf_turns.proofs.Steps.{hands, leaves_at}
use Rattle.sf_turns.proofs.turn_table.TurnTable.leave.Goals as goal

pub join_seat-requires : goal.join_seat-requires
join_seat-requires g c = let i = c.self.invariant in let a = c.requires.aside in (
  c.requires.own.0 ∙ sym c.self.view_is,
  c.requires.own.1 ∙ sym c.self.view_is,
  a.2,
  omega arith,
  hands g.P.Stamped.stamp_of _ _ _ _ _ c.requires.reader.1 a.0.1 a.0.2 a.1,
)

pub fetch_add-requires : goal.fetch_add-requires
fetch_add-requires g c = let j = c.join_seat.ensures in let t = c.requires.token in let M : Type 0 = Me (Home g.row.P.Denot g.row.P-Stamp.Denot) (Knows g.row.P-Stamp.Denot) in let HS : Type 0 = List (ℕ × Home g.row.P.Denot g.row.P-Stamp.Denot) in (
  j.0 ∙ (c.requires.own.0 ∙ sym c.self.view_is),
  (let i = c.self.invariant in let e = ap (λ (z : TableId). z.slots) c.self.view_is in let l = c.requires.range in omega arith),
  leaves_at g.P.Stamped.stamp_of _ _ _ _ _ t.0 (ap (λ (m : M). m.0.token) j.2 ∙ t.2) t.4 t.1 t.3 t.5 (ap (λ (m : M). m.0.live) j.2 ∙ c.requires.reader.0),
)
