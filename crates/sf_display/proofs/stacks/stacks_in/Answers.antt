use Rattle.std.proofs.Common.{ℕ, List, ◌∙◌, ap, filter}
use Rattle.std.proofs.lemmas.List.{take_all}
use Rattle.sf_output_shown.specs.Displays.{order_on}
use Rattle.sf_display.specs.Stacks.{is_of_layer}
use Rattle.sf_display.proofs.NarrowingLemmas.{same_orders}
use Rattle.sf_display.proofs.stacks.stacks_in.Goals as goal

pub returns-clause-same : goal.returns-clause-same
returns-clause-same c = λ stack.
    ap (λ (kept : List (ℕ × ℕ)). order_on c.args.tree.now.layers kept stack)
    (c.loop-stack.invariant ∙ ap (filter (is_of_layer c.args.tree.now.layers)) (take_all c.loop-stack.stack-index c.args.stacks.now c.loop-stack-test.false))
    ∙ same_orders c.args.tree.now.layers c.args.stacks.now stack
