use Rattle.std.proofs.Common.{◌≡◌, ◌∙◌, length}
use Rattle.sf_tree.proofs.Places.{IsIndexed-push, IsIndexed-undone}
use Rattle.sf_tree.proofs.layers.Layers.push.Goals as goal

pub invariant_of-self-in-Ok : goal.invariant_of-self-in-Ok
invariant_of-self-in-Ok c =
    rw c.in_ok-push.ensures.items (IsIndexed-push c.self.inside.list.items c.args.layer c.self.inside.places c.insert.new.self c.self.invariant (rw c.self.view_is c.requires) (λ q. let e : c.len-place.result ≡ length c.self.inside.list.items = c.len-place.ensures ∙ c.self.inside.list.ok.0 in rw e at (c.in-Ok.ensures.updates.0 q)))

pub invariant_of-self-in-Err : goal.invariant_of-self-in-Err
invariant_of-self-in-Err c =
    IsIndexed-undone c.self.inside.list.items c.pop.new.self.items c.args.layer c.self.inside.places c.insert.new.self c.self.invariant (rw (c.push.new.self.ok.0, c.in_ok-push.ensures.items) at c.pop.ensures.rest) c.in-Err.ensures.err
