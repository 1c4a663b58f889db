use Rattle.std.proofs.Common.{◌≡◌, sym, subst, List, arith}
use Rattle.std.proofs.lemmas.Grind.{common_steps}
use Rattle.std.proofs.lemmas.Map.Entries.{entries_from_clone}
use Rattle.sf_layer.specs.declared.layer.Layer.{Layer}
use Rattle.sf_tree.specs.Index.{IsIndexed}
use Rattle.sf_tree.proofs.Places.{IsIndexed-same}
use Rattle.sf_tree.proofs.layers.Layers.copy.Goals as goal

pub invariant_of-result : goal.invariant_of-result
invariant_of-result c =
    let same : c.extend_from_slice.new.self.items ≡ c.self.inside.list.items = grind (arith, common_steps) in
    subst (λ (list : List Layer). IsIndexed list c.in_ok-places.places) (sym same) (IsIndexed-same c.self.inside.list.items c.self.inside.places c.in_ok-places.places c.self.invariant (entries_from_clone _ _ (λ x y e. e) (λ v w e. e) c.self.inside.places.entries c.in_ok-places.places.entries c.in_ok-places.ensures.cases))
