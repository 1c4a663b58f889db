use Rattle.std.proofs.Common.{ℕ, List, ◌∷◌, sym, ap, ◌∙◌, arith}
use Rattle.atomic_table.specs.Seated.{TableId}
use Rattle.atomic_table.specs.Table.{Me, rest}
use Rattle.sf_turns.specs.declared.protocol.Knows.{Knows}
use Rattle.sf_turns.specs.declared.protocol.Home.{Home}
use Rattle.sf_turns.specs.declared.protocol.Home.TheVariants.{Full}
use Rattle.sf_turns.proofs.Steps.{reaches}
use Rattle.sf_turns.proofs.turn_table.TurnTable.let_go.Goals as goal

pub load-count-requires : goal.load-count-requires
load-count-requires g c = let t = c.requires.token in (
  c.requires.own ∙ sym c.self.view_is,
  (let i = c.self.invariant in let e = ap (λ (z : TableId). z.slots) c.self.view_is in let l = c.requires.range in omega arith),
  reaches g.P.Stamped.stamp_of _ _ _ _ _ t.0 t.1 c.requires.empty t.2 t.3,
)

pub exchange-requires : goal.exchange-requires
exchange-requires g c = let t = c.requires.token in
    let M : Type 0 = Me (Home g.row.P.Denot g.row.P-Stamp.Denot) (Knows g.row.P-Stamp.Denot) in
    let f = (c.load-count.ensures.2 t.0 t.1).0 (c.if-count-number.true ∙ sym t.4) in
    let e = ap (λ (m : M). m.1) f.1 in (
      c.load-count.ensures.0 ∙ (c.requires.own ∙ sym c.self.view_is),
      (Full f.0, e ∙ ap (λ (z : List (ℕ × Home g.row.P.Denot g.row.P-Stamp.Denot)). (c.args.buffer, Full f.0) ∷ rest z) (sym e)),
    )
