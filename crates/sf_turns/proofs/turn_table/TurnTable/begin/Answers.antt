use Rattle.std.proofs.Common.{ℕ, List, ◌∷◌, sym, ap, ◌∙◌, arith}
use Rattle.atomic_table.specs.Seated.{TableId}
use Rattle.atomic_table.specs.Table.{Me, rest}
use Rattle.sf_turns.specs.declared.protocol.Knows.{Knows}
use Rattle.sf_turns.specs.declared.protocol.Home.{Home}
use Rattle.sf_turns.specs.declared.protocol.Home.TheVariants.{Full, Vacant}
use Rattle.sf_turns.proofs.Steps.{clears, fills}
use Rattle.sf_turns.proofs.turn_table.TurnTable.begin.Goals as goal

pub load-requires : goal.load-requires
load-requires g c = let i = c.self.invariant in let s = c.requires.stock in let e = ap (λ (z : TableId). z.slots) c.self.view_is in let l = c.requires.range in (
  c.requires.own ∙ sym c.self.view_is,
  omega arith,
  clears g.P.Stamped.stamp_of _ _ _ _ _ c.requires.empty s.0 s.1 s.2,
)

pub exchange-requires : goal.exchange-requires
exchange-requires g c = let l = c.load.ensures in let M : Type 0 = Me (Home g.row.P.Denot g.row.P-Stamp.Denot) (Knows g.row.P-Stamp.Denot) in let HS : Type 0 = List (ℕ × Home g.row.P.Denot g.row.P-Stamp.Denot) in
    let e = ap (λ (m : M). m.1) l.2 in (
      l.0 ∙ (c.requires.own ∙ sym c.self.view_is),
      (Vacant, e ∙ ap (λ (z : HS). (c.args.buffer, Vacant) ∷ rest z) (sym e)),
    )

pub load-requires-2 : goal.load-requires-2
load-requires-2 g c = let l = c.load.ensures in let x = c.exchange.ensures in let s = c.requires.stock in let M : Type 0 = Me (Home g.row.P.Denot g.row.P-Stamp.Denot) (Knows g.row.P-Stamp.Denot) in let HS : Type 0 = List (ℕ × Home g.row.P.Denot g.row.P-Stamp.Denot) in
    let e = ap (λ (m : M). m.1) l.2 in (
      x.0 ∙ (l.0 ∙ (c.requires.own ∙ sym c.self.view_is)),
      (let i = c.self.invariant in let e = ap (λ (z : TableId). z.slots) c.self.view_is in let l = c.requires.range in omega arith),
      fills g.P.Stamped.stamp_of _ _ _ _ _ c.args.p
          (ap (λ (m : M). m.1) x.3 ∙ (ap (λ (z : HS). (c.args.buffer, Full c.args.p) ∷ rest z) e ∙ ap (λ (z : HS). (c.args.buffer, Full c.args.p) ∷ z) c.requires.empty))
          (ap (λ (m : M). m.0.stock) x.3 ∙ (ap (λ (m : M). m.0.stock) l.2 ∙ s.0))
          (ap (λ (m : M). m.0.token) x.3 ∙ (ap (λ (m : M). m.0.token) l.2 ∙ s.2)),
    )
