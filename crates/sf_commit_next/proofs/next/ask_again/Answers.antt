use Rattle.std.proofs.Common.{◌≡◌, ◌∙◌, ◌++◌, ◌∷◌, [], List, ℕ, ap, refl, subst, sym, arith}
use Rattle.std.specs.List.Sorted.{IsStrictlySortedBy}
use Rattle.std.specs.Ordering.{nat_cmp}
use Rattle.sf_commit_next.specs.Asking.{has_token}
use Rattle.sf_commit_next.proofs.AskingLemmas.{has_both, moved, nothing_left, rises_right}
use Rattle.sf_commit_next.proofs.next.ask_again.Goals as goal

pub loop-number-init : goal.loop-number-init
loop-number-init c = refl

pub add_lowest-requires : goal.add_lowest-requires
add_lowest-requires c =
    rises_right c.pop.new.self.items (c.in-Some.number ∷ c.loop-number.asking)
    (subst (IsStrictlySortedBy nat_cmp) (sym c.loop-number.invariant ∙ moved c.pop.new.self.items c.loop-number.left.items (c.in-Some.number ∷ c.loop-number.asking) c.loop-number.asking c.in-Some.number c.in-Some.ensures.items refl)
    c.requires)

pub loop-number-preserved : goal.loop-number-preserved
loop-number-preserved c =
    sym (moved c.pop.new.self.items c.loop-number.left.items c.add_lowest.new.self c.loop-number.asking c.in-Some.number c.in-Some.ensures.items c.in_ok-add_lowest.ensures)
    ∙ c.loop-number.invariant

pub returns : goal.returns
returns c =
    let none : c.loop-number.left.items ≡ [] = nothing_left c.loop-number.left.items (omega (arith, c.loop-number.left.ok.0, c.in_default.ensures.cases.0)) in
    let all = sym (ap (λ (ks : List ℕ). ks ++ c.loop-number.asking) none) ∙ c.loop-number.invariant in
    λ token. ap (λ (ks : List ℕ). has_token ks token) all ∙ has_both c.args.stopped.items c.args.asking.now token
