use Rattle.std.proofs.Common.{◌≡◌, ◌+◌, [], ◌∷◌, ◌++◌, Some, sym, ap, ◌∙◌}
use Rattle.atomic_table.specs.Table.{Me}
use Rattle.sf_turns.specs.declared.protocol.Knows.{Knows}
use Rattle.sf_turns.specs.declared.protocol.Home.{Home}
use Rattle.sf_turns.specs.declared.protocol.Token.{Token}
use Rattle.sf_turns.specs.Rule.{handed, departed_with}
use Rattle.sf_turns.specs.Views.{SeatView}
use Rattle.sf_turns.proofs.seat.TurnSeat.take_leave.Goals as goal

pub returns-clause-left : goal.returns-clause-left
returns-clause-left g c = λ t e.
    let M : Type 0 = Me (Home g.row.P.Denot g.row.P-Stamp.Denot) (Knows g.row.P-Stamp.Denot) in
    let K : Type 0 = Knows g.row.P-Stamp.Denot in
    let s = c.leave.ensures in let v : K = c.self.inside.seat.me.0 in let u : K = c.args.turn.me.0 in
    let tk = c.requires.token in
    let same : tk.0 ≡ t = (let z : Some tk.0 ≡ Some t = sym tk.2 ∙ e in cc) in
    let at : t.buffer ≡ c.args.buffer = ap (λ (z : Token g.row.P-Stamp.Denot). z.buffer) (sym same) ∙ tk.4 in
    let e2 : c.leave.new.seat.me.0 ≡ departed_with (handed v u) (Some t) = ap (λ (m : M). m.0) s.left ∙ ap (departed_with (handed v u)) e in (
      u.seen,
      (λ i. record { table = s.same.0 i; is_first = (e2 i).is_first; out = (e2 i).out; leaves = (e2 i).leaves; seen = (e2 i).seen })
          ∙ ((λ i. record { table = c.self.inside.seat.table_id; is_first = v.is_first; out = v.out; leaves = v.leaves ++ (at i, t.number) ∷ []; seen = (v.seen ++ u.seen) ++ (at i, t.number + 1) ∷ [] })
          ∙ ap (λ (w : SeatView). record w { leaves = w.leaves ++ (c.args.buffer, t.number) ∷ []; seen = (w.seen ++ u.seen) ++ (c.args.buffer, t.number + 1) ∷ [] }) c.self.view_is),
    )
