use Rattle.std.proofs.Common.{rules, sym, subst, refl}
use Rattle.sf_calls.proofs.Keeps.{opens}
use Rattle.sf_calls.specs.Histories.{IsLegal}
use Rattle.sf_calls.proofs.lock.CallLock.open.Goals as goal

pub new-requires : goal.new-requires
new-requires g c = opens g.O.Object.history g.O.Object.mark g.O.Object.answers c.of.result.value _ _ c.args.by refl (search rules) (subst (λ (z : g.row.O.Denot). IsLegal (g.O.Object.answers (g.O.Object.mark z)) (g.O.Object.history z)) (sym c.of.ensures) c.legal.ensures)
