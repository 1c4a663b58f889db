use Rattle.std.proofs.Common.{sym}
use Rattle.sf_tree.proofs.Places.{IsIndexed-pop}
use Rattle.sf_tree.proofs.layers.Layers.pop.Goals as goal

pub invariant_of-self : goal.invariant_of-self
invariant_of-self c =
    IsIndexed-pop c.pop.new.self.items c.in-Some.layer c.self.inside.places c.remove.new.self (rw (sym c.in-Some.ensures.items) c.self.invariant) (λ q. c.remove.ensures.updates.0 q)
