use Rattle.std.proofs.Common.{ℕ, List, ◌∷◌, Option, sym, ap, ◌∙◌, subst, arith}
use Rattle.atomic_table.specs.Table.{Me}
use Rattle.sf_calls.specs.declared.protocol.Knows.{Knows}
use Rattle.std.specs.List.{Contains}
use Rattle.sf_calls.proofs.Keeps.{asks, gives_number}
use Rattle.sf_calls.proofs.lock.CallLock.give.Goals as goal

pub swap-requires : goal.swap-requires
swap-requires g c = let i = c.self.invariant in (c.requires.own ∙ sym c.self.view_is, omega arith, asks g.O.Object.history g.O.Object.mark g.O.Object.answers _ _ _ _ _)

pub split_seat-requires : goal.split_seat-requires
split_seat-requires g c = let i = c.self.invariant in let e = c.swap.ensures in let M : Type 0 = Me (Option g.row.O.Denot) (Knows g.row.O-PlainCall.Denot g.row.O-PlainReply.Denot g.row.O-Mark.Denot) in let HS : Type 0 = List (ℕ × Option g.row.O.Denot) in
    (e.0 ∙ (c.requires.own ∙ sym c.self.view_is), omega arith, gives_number g.O.Object.history g.O.Object.mark g.O.Object.answers _ _ _ (ap (λ (m : M). m.0.is_first) e.2 ∙ c.requires.first) (λ f. c.requires.fresh (subst (λ (m : M). Contains (m.0.by ∷ m.0.gave) m.0.asked) e.2 f)))
