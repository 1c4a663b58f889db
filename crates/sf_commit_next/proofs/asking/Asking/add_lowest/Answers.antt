use Rattle.std.proofs.Common.{◌∙◌, ◌∷◌, List, ℕ, ap, subst, sym, reverse}
use Rattle.std.specs.List.Sorted.{IsStrictlySortedBy}
use Rattle.std.specs.Ordering.{nat_cmp}
use Rattle.sf_commit_next.proofs.AskingLemmas.{turned}
use Rattle.sf_commit_next.proofs.asking.Asking.add_lowest.Goals as goal

pub returns : goal.returns
returns c =
    turned c.push.new.self.items c.self.inside.tokens.items c.args.token.0 c.in_ok-push.ensures.items
    ∙ ap (λ (ks : List ℕ). c.args.token.0 ∷ ks) c.self.view_is

pub invariant_of-self : goal.invariant_of-self
invariant_of-self c = subst (λ (ks : List ℕ). IsStrictlySortedBy nat_cmp (reverse ks)) (sym c.in_err-push.ensures.items) c.self.invariant

pub invariant_of-self-2 : goal.invariant_of-self-2
invariant_of-self-2 c =
    subst (IsStrictlySortedBy nat_cmp)
    (sym (turned c.push.new.self.items c.self.inside.tokens.items c.args.token.0 c.in_ok-push.ensures.items ∙ ap (λ (ks : List ℕ). c.args.token.0 ∷ ks) c.self.view_is))
    c.requires
