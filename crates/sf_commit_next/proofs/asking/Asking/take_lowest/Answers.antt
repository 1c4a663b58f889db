use Rattle.std.proofs.Common.{◌∙◌, [], ◌∷◌, List, ℕ, ap, subst, sym, reverse, arith}
use Rattle.std.specs.List.Sorted.{IsStrictlySortedBy}
use Rattle.std.specs.Ordering.{nat_cmp}
use Rattle.std.proofs.lemmas.List.{append-nil}
use Rattle.sf_commit_next.specs.Asking.{TakesLowest}
use Rattle.sf_commit_next.proofs.AskingLemmas.{first_lowest, nothing_left, rises_right, turned}
use Rattle.sf_commit_next.proofs.asking.Asking.take_lowest.Goals as goal

pub returns : goal.returns
returns c =
    let all = turned c.self.inside.tokens.items c.pop.new.self.items c.in_ok-number.number c.in_ok-number.ensures.items in (
      sym c.self.view_is ∙ all,
      first_lowest c.in_ok-number.number (reverse c.pop.new.self.items) (subst (IsStrictlySortedBy nat_cmp) all c.self.invariant),
    )

pub returns-in_err-number : goal.returns-in_err-number
returns-in_err-number c =
    let none = nothing_left c.pop.new.self.items (omega (arith, c.pop.new.self.ok.0, c.in_err-number.ensures.cases.1)) in
    let all = c.in_err-number.ensures.items ∙ append-nil c.pop.new.self.items in
    subst (TakesLowest c.args.self.now (reverse c.pop.new.self.items)) (sym c.from_residual.ensures)
    (sym c.self.view_is ∙ ap (λ (ks : List ℕ). reverse ks) (all ∙ none), ap (λ (ks : List ℕ). reverse ks) none)

pub invariant_of-self : goal.invariant_of-self
invariant_of-self c =
    subst (λ (ks : List ℕ). IsStrictlySortedBy nat_cmp (reverse ks)) (c.in_err-number.ensures.items ∙ append-nil c.pop.new.self.items) c.self.invariant

pub invariant_of-self-2 : goal.invariant_of-self-2
invariant_of-self-2 c =
    let all = turned c.self.inside.tokens.items c.pop.new.self.items c.in_ok-number.number c.in_ok-number.ensures.items in
    rises_right (c.in_ok-number.number ∷ []) (reverse c.pop.new.self.items) (subst (IsStrictlySortedBy nat_cmp) all c.self.invariant)
