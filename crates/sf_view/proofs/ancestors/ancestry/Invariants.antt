use Rattle.std.proofs.Common.{◌≡◌, ◌++◌}
use Rattle.sf_view.specs.Ancestry.{ancestry, ancestry_within, and_above}
use Rattle.sf_view.proofs.ancestors.ancestry.Given as goal

abbrev pub invariant-loop-steps : goal.invariant-loop-steps
invariant-loop-steps l = l.list.items ++ and_above (ancestry_within l.tree.layers l.steps) l.next ≡ ancestry l.tree.layers l.fn.layer

abbrev pub decreases-loop-steps : goal.decreases-loop-steps
decreases-loop-steps l = l.steps
