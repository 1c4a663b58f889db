use Rattle.std.proofs.Common.{ℕ, List, ◌∷◌, sym, ap, ◌∙◌, arith}
use Rattle.atomic_table.specs.Seated.{TableId}
use Rattle.atomic_table.specs.Table.{Me, rest}
use Rattle.sf_turns.specs.declared.protocol.Knows.{Knows}
use Rattle.sf_turns.specs.declared.protocol.Home.{Home}
use Rattle.sf_turns.specs.declared.protocol.Home.TheVariants.{Full}
use Rattle.sf_base.specs.Points.{greatest}
use Rattle.sf_base.proofs.PointLemmas.{greatest-append}
use Rattle.sf_turns.proofs.Steps.{tells, enters_at}
use Rattle.sf_turns.proofs.turn_table.TurnTable.enter.Goals as goal

pub join_seat-requires : goal.join_seat-requires
join_seat-requires g c = let i = c.self.invariant in let n = c.requires.note in (
  c.requires.own.0 ∙ sym c.self.view_is,
  c.requires.own.1 ∙ sym c.self.view_is,
  n.3,
  omega arith,
  tells g.P.Stamped.stamp_of _ _ _ _ _ n.0.1 n.0.2 n.1 n.2,
)

pub load-requires : goal.load-requires
load-requires g c = let i = c.self.invariant in let t = c.requires.token in let j = c.join_seat.ensures in
    let M : Type 0 = Me (Home g.row.P.Denot g.row.P-Stamp.Denot) (Knows g.row.P-Stamp.Denot) in (
      j.0 ∙ (c.requires.own.0 ∙ sym c.self.view_is),
      (let e = ap (λ (z : TableId). z.slots) c.self.view_is in let l = c.requires.range in omega arith),
      enters_at g.P.Stamped.stamp_of _ _ _ _ _ t.0 (ap (λ (m : M). m.0.token) j.2 ∙ t.1) (ap (λ (m : M). m.1) j.2 ∙ c.requires.empty) t.2 t.3
          (let s = ap (λ (m : M). greatest c.args.buffer m.0.seen) j.2 in let n = t.4 in omega (arith, greatest-append c.args.buffer c.args.seat.now.me.0.seen c.args.told.me.0.seen)),
    )

pub exchange-requires : goal.exchange-requires
exchange-requires g c = let j = c.join_seat.ensures in let l = c.load.ensures in
    let M : Type 0 = Me (Home g.row.P.Denot g.row.P-Stamp.Denot) (Knows g.row.P-Stamp.Denot) in
    let e = ap (λ (m : M). m.1) l.2.1 in (
      l.0 ∙ (j.0 ∙ (c.requires.own.0 ∙ sym c.self.view_is)),
      (Full l.2.0, e ∙ ap (λ (z : List (ℕ × Home g.row.P.Denot g.row.P-Stamp.Denot)). (c.args.buffer, Full l.2.0) ∷ rest z) (sym e)),
    )

pub returns-clause-counted : goal.returns-clause-counted
returns-clause-counted g c = λ t has.
    let j = c.join_seat.ensures in let l = c.load.ensures in
    let M : Type 0 = Me (Home g.row.P.Denot g.row.P-Stamp.Denot) (Knows g.row.P-Stamp.Denot) in
    let few = (l.2.2 t (ap (λ (m : M). m.0.token) j.2 ∙ has)).1 in
    let s = ap (λ (m : M). greatest c.args.buffer m.0.seen) j.2 in
    omega (arith, few, s, greatest-append c.args.buffer c.args.seat.now.me.0.seen c.args.told.me.0.seen)
