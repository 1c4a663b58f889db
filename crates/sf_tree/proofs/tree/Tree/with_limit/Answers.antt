use Rattle.sf_tree.proofs.TreeKept.{IsTree_nil}
use Rattle.sf_tree.proofs.tree.Tree.with_limit.Goals as goal

pub invariant_of-result : goal.invariant_of-result
invariant_of-result c = rw c.new.ensures (IsTree_nil c.args.most c.requires)
