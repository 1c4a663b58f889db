use Rattle.std.proofs.Common.{◌≡◌, ◌++◌, ◌∙◌, ap, drop, length, List, sym, subst, take}
use Rattle.sf_layer.specs.declared.layer.Layer.{Layer}
use Rattle.sf_tree.specs.Changes.{without}
use Rattle.sf_tree.specs.Index.{IsIndexed}
use Rattle.sf_tree.proofs.RemovedLayer.{IsIndexed-without, removed-is}
use Rattle.sf_tree.proofs.layers.Layers.remove.Goals as goal

pub invariant_of-self : goal.invariant_of-self
invariant_of-self c =
    let is : take c.remove-2.new.self.len (c.clear_steps_to.new.list ++ drop (length c.clear_steps_to.new.list) c.remove-2.new.self.items) ≡ without c.args.id c.self.inside.list.items =
    removed-is c.self.inside.list.items c.clear_steps_to.new.list c.remove-2.new.self.items c.deref_mut.result.now c.args.id c.args.place c.remove-2.new.self.len c.remove-2.result c.self.invariant.distinct (rw c.self.view_is c.requires) c.remove-2.ensures.items c.remove-2.new.self.ok.0 c.deref_mut.ensures.value c.clear_steps_to.ensures in
    subst (λ (list : List Layer). IsIndexed list c.remove.new.self) (sym is) (IsIndexed-without c.self.inside.list.items c.args.id c.self.inside.places c.remove.new.self c.self.invariant (λ q. c.remove.ensures.updates.0 q))

pub returns : goal.returns
returns c =
    removed-is c.self.inside.list.items c.clear_steps_to.new.list c.remove-2.new.self.items c.deref_mut.result.now c.args.id c.args.place c.remove-2.new.self.len c.remove-2.result c.self.invariant.distinct (rw c.self.view_is c.requires) c.remove-2.ensures.items c.remove-2.new.self.ok.0 c.deref_mut.ensures.value c.clear_steps_to.ensures ∙ ap (without c.args.id) c.self.view_is
