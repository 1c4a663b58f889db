use Rattle.std.proofs.Common.{◌≡◌, false, subst, sym}
use Rattle.sf_commit.specs.Handlers.{HandlerOf}
use Rattle.sf_commit.proofs.handler.Handler.show.Goals as goal

pub view_of-requires : goal.view_of-requires
view_of-requires g c = (c.self.invariant.0.keeps (subst (λ (h : HandlerOf g.row.L.Denot). h.is_spent ≡ false) (sym c.self.view_is) c.requires)).display
