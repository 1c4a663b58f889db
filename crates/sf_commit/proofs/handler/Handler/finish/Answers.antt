use Rattle.std.proofs.Common.{◌≡◌, List, None, ap, length, subst, sym, arith}
use Rattle.sf_commit.specs.Handlers.{HandlerOf}
use Rattle.sf_commit.specs.Lending.{KeptRead}
use Rattle.sf_commit.proofs.handler.Handler.finish.Goals as goal

pub destroy_empty-requires : goal.destroy_empty-requires
destroy_empty-requires g c =
    let none = subst (λ (x : HandlerOf g.row.L.Denot). x.lent ≡ None) (sym c.self.view_is) c.requires in
    let empty = ap (λ (xs : List (KeptRead g.row.L.Denot)). length xs) (c.self.invariant.0.unlent none) in
    omega (arith, c.self.inside.kept.ok.0, empty)
