use Rattle.std.proofs.Common.{◌≡◌, ◌+◌, ◌≤◌, ◌-◌, ◌∙◌, Some, sym, arith, length, List, subst}
use Rattle.sf_tree.specs.sf_layer.declared.layer.Layer.{Layer}
use Rattle.sf_tree.specs.inner.Known.{Outranks}
use Rattle.sf_tree.specs.Layers.{parent_layer}
use Rattle.sf_tree.proofs.Lookups.{layer_of-none, layer_of-place}
use Rattle.sf_tree.proofs.Places.{index_of_inside}
use Rattle.sf_tree.proofs.ShowLemmas.{at_found, Outranks-le}
use Rattle.sf_view.specs.Ancestry.{ancestry, and_above}
use Rattle.sf_view.specs.Placements.{IsPlaced}
use Rattle.sf_view.proofs.AncestryLemmas.{above-few, ancestry-is, hangs}
use Rattle.sf_view.proofs.PlacementLemmas.{AreFound-set, IsInReach-le}
use Rattle.sf_view.proofs.placing.+place.Goals as goal

pub place-returns-in-Some-clause-placed : goal.place-returns-in-Some-clause-placed
place-returns-in-Some-clause-placed t c = λ layer at. c.requires.found.right c.args.index layer c.in-Some.placement at c.in-Some.is

pub place-place_parent-above-requires : goal.place-place_parent-above-requires
place-place_parent-above-requires t c =
    (omega arith, (c.requires.display, (c.requires.found, λ layer e. hangs c.args.tree.now.layers c.layer_at-layer.result layer c.args.steps (c.requires.steps c.layer_at-layer.result c.layer_at-layer.ensures.layer) e)))

pub place-below-placement-requires-clause-near : goal.place-below-placement-requires-clause-near
place-below-placement-requires-clause-near t c =
    let few : length (and_above (ancestry c.args.tree.now.layers) (parent_layer c.args.tree.now.layers c.layer_at-layer.result.parent)) ≤ 65535 = omega (arith, above-few c.args.tree.now.layers (parent_layer c.args.tree.now.layers c.layer_at-layer.result.parent), c.layer_at-layer.ensures.kept.few, c.layer_at-layer.ensures.kept.limit) in
    (IsInReach-le _ _ _ c.place_parent-above.ensures.placed.near_x few, IsInReach-le _ _ _ c.place_parent-above.ensures.placed.near_y few)

pub place-returns-clause-placed : goal.place-returns-clause-placed
place-returns-clause-placed t c = λ layer at.
    let both : Some c.layer_at-layer.result ≡ Some layer = sym c.layer_at-layer.ensures.layer ∙ at in
    let same : c.layer_at-layer.result ≡ layer = cc in
    subst (λ (l : Layer). IsPlaced c.args.width c.args.height (ancestry c.args.tree.now.layers l) c.below-placement.result) same
    (subst (λ (ls : List Layer). IsPlaced c.args.width c.args.height ls c.below-placement.result) (sym (ancestry-is c.args.tree.now.layers c.layer_at-layer.result (c.args.steps + 1) (c.requires.steps c.layer_at-layer.result c.layer_at-layer.ensures.layer)))
    (c.below-placement.ensures c.args.width c.args.height _ c.place_parent-above.ensures.placed))

pub place-returns-clause-found : goal.place-returns-clause-found
place-returns-clause-found t c =
    AreFound-set c.args.tree.now.layers c.args.width c.args.height c.place_parent-above.new.found c.args.index c.layer_at-layer.result c.below-placement.result c.place_parent-above.ensures.found c.layer_at-layer.ensures.layer
    (subst (λ (ls : List Layer). IsPlaced c.args.width c.args.height ls c.below-placement.result) (sym (ancestry-is c.args.tree.now.layers c.layer_at-layer.result (c.args.steps + 1) (c.requires.steps c.layer_at-layer.result c.layer_at-layer.ensures.layer)))
    (c.below-placement.ensures c.args.width c.args.height _ c.place_parent-above.ensures.placed))

pub place_parent-overflow_sub-steps : goal.place_parent-overflow_sub-steps
place_parent-overflow_sub-steps t c =
    let at = at_found c.args.tree.now.layers c.in-Layer.id c.in-Some.index c.in-Some.ensures.value in
    let o : Outranks c.args.tree.now.layers at.0 c.args.steps = c.requires.steps at.0 (rw c.in-Layer.is at.1) in
    omega (arith, o.low)

pub place_parent-place-requires : goal.place_parent-place-requires
place_parent-place-requires t c =
    let at = at_found c.args.tree.now.layers c.in-Layer.id c.in-Some.index c.in-Some.ensures.value in
    let o : Outranks c.args.tree.now.layers at.0 c.args.steps = c.requires.steps at.0 (rw c.in-Layer.is at.1) in
    let some : 1 ≤ c.args.steps = omega (arith, o.low) in
    (omega arith, (c.requires.display, (index_of_inside c.args.tree.now.layers c.in-Layer.id c.in-Some.index (sym c.in-Some.ensures.value), (c.requires.found, λ layer e. Outranks-le c.args.tree.now.layers layer c.args.steps (c.args.steps - 1 + 1) (c.requires.steps layer (rw c.in-Layer.is (layer_of-place c.args.tree.now.layers c.in-Layer.id c.in-Some.index (sym c.in-Some.ensures.value) ∙ e))) (omega arith)))))

pub place_parent-returns-in-Some-clause-placed : goal.place_parent-returns-in-Some-clause-placed
place_parent-returns-in-Some-clause-placed t c =
    let at = at_found c.args.tree.now.layers c.in-Layer.id c.in-Some.index c.in-Some.ensures.value in
    rw (c.in-Layer.is, at.1) (c.place.ensures.placed at.0 at.2)

pub place_parent-returns-in-None-clause-placed : goal.place_parent-returns-in-None-clause-placed
place_parent-returns-in-None-clause-placed t c = rw (c.in-Layer.is, layer_of-none c.args.tree.now.layers c.in-Layer.id (sym c.in-None.ensures.value)) c.root-in-None.ensures
