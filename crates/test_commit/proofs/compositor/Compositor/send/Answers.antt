use Rattle.std.proofs.Common.{◌≡◌, ℕ, List, [], ◌∷◌, ◌++◌, ap, sym, subst, arith}
use Rattle.test_leases.specs.Pages.{PageOf}
use Rattle.sf_token.specs.Pending.{Arrival, IsRisingFrom}
use Rattle.test_commit.proofs.RunLemmas.{rising_more}
use Rattle.test_commit.proofs.compositor.Compositor.send.Goals as goal

pub invariant_of-self : goal.invariant_of-self
invariant_of-self c =
    let before = c.self.inside.handler.last in
    let number_is : c.arrived.inside.number ≡ c.args.arrived.number = ap (λ (a : Arrival PageOf). a.number) c.arrived.view_is in (
      c.self.invariant.0,
      λ alive. subst (λ (xs : List (Arrival PageOf)). IsRisingFrom before xs c.arrived.inside.number) (sym c.in-Ok.ensures.items)
          (subst (λ (n : ℕ). IsRisingFrom before (c.self.inside.arrived.items ++ c.args.arrived ∷ []) n) (sym number_is)
          (rising_more before c.self.inside.last c.self.inside.arrived.items c.args.arrived (c.self.invariant.1 alive) (omega (arith, number_is, c.if-number-self.false)))),
    )
