use Rattle.std.proofs.Common.{◌≡◌, ◌∙◌, ap, subst, sym, false}
use Rattle.std.specs.Prelude.{None}
use Rattle.sf_commit.proofs.MarkLemmas.{pictures_kept}
use Rattle.sf_commit.specs.Handlers.{HandlerOf, IsHandler}
use Rattle.sf_commit.specs.Leases.{pictures}
use Rattle.sf_commit.proofs.handler.Handler.contents.Goals as goal

pub returns-clause-pictures : goal.returns-clause-pictures
returns-clause-pictures g c =
    let none = subst (λ (h : HandlerOf g.row.L.Denot). h.lent ≡ None) (sym c.self.view_is) c.requires in
    c.deref.ensures.value ∙ (pictures_kept g.L.Lease _ _ _ none c.self.invariant.0 ∙ ap (λ (h : HandlerOf g.row.L.Denot). pictures g.L.Lease h.on) c.self.view_is)

pub returns-clause-kept : goal.returns-clause-kept
returns-clause-kept g c = subst (λ (h : HandlerOf g.row.L.Denot). h.is_spent ≡ false → IsHandler g.L.Lease h) c.self.view_is c.self.invariant.0.keeps
