use Rattle.std.proofs.Common.{◌≡◌, false, subst}
use Rattle.sf_commit.specs.Handlers.{HandlerOf, IsHandler}
use Rattle.sf_commit.proofs.handler.Handler.tree.Goals as goal

pub returns-clause-kept : goal.returns-clause-kept
returns-clause-kept g c = subst (λ (h : HandlerOf g.row.L.Denot). h.is_spent ≡ false → IsHandler g.L.Lease h) c.self.view_is c.self.invariant.0.keeps
