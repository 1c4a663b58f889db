use Rattle.std.proofs.Common.{ℕ, List, ◌∷◌, sym, ap, ◌∙◌, arith}
use Rattle.atomic_table.specs.Seated.{TableId}
use Rattle.atomic_table.specs.Table.{Me, rest}
use Rattle.sf_turns.specs.declared.protocol.Knows.{Knows}
use Rattle.sf_turns.specs.declared.protocol.Home.{Home}
use Rattle.sf_turns.specs.declared.protocol.Home.TheVariants.{Full, Vacant}
use Rattle.sf_turns.proofs.Steps.{returns_done_at}
use Rattle.sf_turns.proofs.turn_table.TurnTable.finish.Goals as goal

pub exchange-requires : goal.exchange-requires
exchange-requires g c = (
  c.requires.own ∙ sym c.self.view_is,
  (Vacant, c.requires.held ∙ ap (λ (z : List (ℕ × Home g.row.P.Denot g.row.P-Stamp.Denot)). (c.args.buffer, Vacant) ∷ rest z) (sym c.requires.held)),
)

pub load-requires : goal.load-requires
load-requires g c = let x = c.exchange.ensures in let t = c.requires.token in let M : Type 0 = Me (Home g.row.P.Denot g.row.P-Stamp.Denot) (Knows g.row.P-Stamp.Denot) in let HS : Type 0 = List (ℕ × Home g.row.P.Denot g.row.P-Stamp.Denot) in (
  x.0 ∙ (c.requires.own ∙ sym c.self.view_is),
  (let i = c.self.invariant in let e = ap (λ (z : TableId). z.slots) c.self.view_is in let l = c.requires.range in omega arith),
  returns_done_at g.P.Stamped.stamp_of _ _ _ _ _ t.0 (ap (λ (m : M). m.0.token) x.3 ∙ t.1) t.3 c.args.p
      (ap (λ (m : M). m.1) x.3 ∙ ap (λ (z : HS). (c.args.buffer, Full c.args.p) ∷ rest z) c.requires.held) t.2 t.4,
)
