use Rattle.std.proofs.Common.{ℕ, List, ◌∷◌, Option, Some, None, sym, ap, ◌∙◌, arith}
use Rattle.atomic_table.specs.Table.{Me, rest}
use Rattle.sf_calls.specs.declared.protocol.Knows.{Knows}
use Rattle.sf_calls.proofs.Keeps.{gives_up}
use Rattle.sf_calls.proofs.lock.CallLock.give_up.Goals as goal

pub exchange-requires : goal.exchange-requires
exchange-requires g c = let M : Type 0 = Me (Option g.row.O.Denot) (Knows g.row.O-PlainCall.Denot g.row.O-PlainReply.Denot g.row.O-Mark.Denot) in let HS : Type 0 = List (ℕ × Option g.row.O.Denot) in (
  c.requires.own ∙ sym c.self.view_is,
  (None, c.requires.held.0 ∙ ap (λ (z : HS). (0, None) ∷ rest z) (sym c.requires.held.0)),
)

pub fetch_add-requires : goal.fetch_add-requires
fetch_add-requires g c = let i = c.self.invariant in let x = c.exchange.ensures in let M : Type 0 = Me (Option g.row.O.Denot) (Knows g.row.O-PlainCall.Denot g.row.O-PlainReply.Denot g.row.O-Mark.Denot) in let HS : Type 0 = List (ℕ × Option g.row.O.Denot) in
    let held = ap (λ (m : M). m.1) x.3 ∙ ap (λ (z : HS). (0, Some c.args.object) ∷ rest z) c.requires.held.0 in
    let in_ = ap (λ (m : M). m.0.inside) x.3 ∙ c.requires.held.1 in
    let live = ap (λ (m : M). m.0.live) x.3 ∙ c.requires.held.2 in (
      x.0 ∙ (c.requires.own ∙ sym c.self.view_is),
      omega arith,
      gives_up g.O.Object.history g.O.Object.mark g.O.Object.answers _ _ _ _ c.args.object held in_ live
          (c.requires.unchanged ∙ ap (λ (m : M). m.0.found) (sym x.3)) (ap (λ (m : M). m.0.mark) x.3 ∙ c.requires.marked) c.requires.legal,
    )
