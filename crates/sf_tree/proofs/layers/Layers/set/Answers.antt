use Rattle.sf_tree.proofs.Places.{IsIndexed-set}
use Rattle.sf_tree.proofs.layers.Layers.set.Goals as goal

pub invariant_of-self : goal.invariant_of-self
invariant_of-self c = IsIndexed-set c.self.inside.list.items c.args.place c.args.layer c.self.inside.places c.self.invariant (rw c.self.view_is c.requires.same)
