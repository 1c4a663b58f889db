use Rattle.std.proofs.Common.{ℕ, List, ◌∷◌, Option, Some, sym, ap, ◌∙◌, arith}
use Rattle.atomic_table.specs.Table.{Me, rest}
use Rattle.sf_calls.specs.declared.protocol.Knows.{Knows}
use Rattle.sf_calls.proofs.Keeps.{finds}
use Rattle.sf_calls.proofs.lock.CallLock.try_enter.Goals as goal

pub load-requires : goal.load-requires
load-requires g c = let i = c.self.invariant in (
  c.requires.own ∙ sym c.self.view_is,
  omega arith,
  finds g.O.Object.history g.O.Object.mark g.O.Object.answers _ _ _ _ c.requires.drawn.1 c.requires.drawn.2,
)

pub exchange-requires : goal.exchange-requires
exchange-requires g c = let M : Type 0 = Me (Option g.row.O.Denot) (Knows g.row.O-PlainCall.Denot g.row.O-PlainReply.Denot g.row.O-Mark.Denot) in let HS : Type 0 = List (ℕ × Option g.row.O.Denot) in
    let f = c.load.ensures.2.0 (c.requires.drawn.0 ∙ ap (λ (z : ℕ). Some z) (sym c.if-load-ticket.true)) in
    let e = ap (λ (m : M). m.1) f.1 in (
      c.load.ensures.0 ∙ (c.requires.own ∙ sym c.self.view_is),
      (Some f.0, e ∙ ap (λ (z : HS). (0, Some f.0) ∷ rest z) (sym e)),
    )
