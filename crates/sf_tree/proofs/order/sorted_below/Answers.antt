use Rattle.std.proofs.Common.{◌≡◌, ◌+◌, ◌∙◌, subst, List, ◌++◌, ◌∷◌, [], map, take}
use Rattle.std.proofs.lemmas.List.{length-map}
use Rattle.sf_layer.specs.declared.layer.Layer.{Layer}
use Rattle.sf_tree.specs.inner.Known.{IsSortedBelow, showing}
use Rattle.sf_tree.proofs.BelowLemmas.{all_empty, all_taken, at_index, next_at}
use Rattle.sf_tree.proofs.ShowLemmas.{inside_from_slice_get}
use Rattle.sf_tree.proofs.order.sorted_below.Goals as goal

pub loop-place-init : goal.loop-place-init
loop-place-init c = record {
  hang = rw c.in_ok-below.ensures.roots tt;
  lists = record {
    size = length-map c.in_ok-below.below.lists.items (λ list. list.items) ∙ (c.in_ok-below.ensures.size ∙ c.len.ensures);
    lists = λ k layer at. rw (all_empty (λ list. list.items) c.in_ok-below.below.lists.items c.in_ok-below.ensures.lists k) tt;
  };
}

pub add-requires-clause-inside : goal.add-requires-clause-inside
add-requires-clause-inside c =
    let at = at_index c.args.layers.now c.args.places.now (showing c.args.layers.now) c.loop-place.place-index 0 c.requires c.loop-place-test.true in
    inside_from_slice_get c.args.layers.now _ at.0 at.1

pub loop-place-preserved : goal.loop-place-preserved
loop-place-preserved c =
    let at = at_index c.args.layers.now c.args.places.now (showing c.args.layers.now) c.loop-place.place-index 0 c.requires c.loop-place-test.true in
    let more : take (c.loop-place.place-index + 1) (showing c.args.layers.now) ≡ take c.loop-place.place-index (showing c.args.layers.now) ++ at.0 ∷ [] = next_at c.args.layers.now c.args.places.now (showing c.args.layers.now) c.loop-place.place-index 0 at.0 c.requires c.loop-place-test.true at.1 in
    rw more (c.in_ok-add.ensures (take c.loop-place.place-index (showing c.args.layers.now)) at.0 at.1 c.loop-place.invariant)

pub returns : goal.returns
returns c =
    subst (λ (ls : List Layer). IsSortedBelow c.args.layers.now ls c.loop-place.below.roots.items (map (λ list. list.items) c.loop-place.below.lists.items)) (all_taken c.args.layers.now c.args.places.now (showing c.args.layers.now) c.loop-place.place-index c.requires c.loop-place-test.false) c.loop-place.invariant
