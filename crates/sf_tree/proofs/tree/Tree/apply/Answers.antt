use Rattle.sf_tree.proofs.KeepingAll.{answer-keeps}
use Rattle.sf_tree.proofs.tree.Tree.apply.Goals as goal

pub invariant_of-self : goal.invariant_of-self
invariant_of-self c = answer-keeps c.apply_all.result c.self.inside.most c.self.inside.layers c.apply_all.new.layers c.args.ops.now c.apply_all.ensures.ok c.apply_all.ensures.err c.self.invariant c.requires.in_range
