use Rattle.std.proofs.Common.{◌≡◌, ◌+◌, ap, ◌∙◌, refl, ◌++◌, ◌∷◌, [], take, length, append-nil}
use Rattle.std.specs.List.{flat_map}
use Rattle.std.proofs.lemmas.Grind.{flat_map-append}
use Rattle.sf_layer.specs.declared.parent.Parent.TheVariants as parent
use Rattle.sf_tree.specs.DrawOrder.{draw, draw_order, drawn_with}
use Rattle.sf_tree.specs.inner.Known.{showing}
use Rattle.sf_tree.proofs.BelowLemmas.{all_taken, at_index, next_at}
use Rattle.sf_tree.proofs.ShowLemmas.{inside_from_slice_get}
use Rattle.sf_tree.proofs.order.draw_order.Goals as goal

pub draw-requires-clause-inside : goal.draw-requires-clause-inside
draw-requires-clause-inside c =
    let at = at_index c.args.layers.now c.deref-place-items.result.now (drawn_with parent.Root (showing c.args.layers.now)) c.loop-place.place-index 0 (rw c.deref-place-items.ensures.value c.in_ok-below.ensures.hang) c.loop-place-test.true in
    inside_from_slice_get c.args.layers.now _ at.0 at.1

pub loop-place-preserved : goal.loop-place-preserved
loop-place-preserved c =
    let at = at_index c.args.layers.now c.deref-place-items.result.now (drawn_with parent.Root (showing c.args.layers.now)) c.loop-place.place-index 0 (rw c.deref-place-items.ensures.value c.in_ok-below.ensures.hang) c.loop-place-test.true in
    let more : take (c.loop-place.place-index + 1) (drawn_with parent.Root (showing c.args.layers.now)) ≡ take c.loop-place.place-index (drawn_with parent.Root (showing c.args.layers.now)) ++ at.0 ∷ [] = next_at c.args.layers.now c.deref-place-items.result.now (drawn_with parent.Root (showing c.args.layers.now)) c.loop-place.place-index 0 at.0 (rw c.deref-place-items.ensures.value c.in_ok-below.ensures.hang) c.loop-place-test.true at.1 in
    c.in_ok-draw.ensures at.0 at.1 ∙ (rw (more, flat_map-append (draw (showing c.args.layers.now) (length c.args.layers.now)) (take c.loop-place.place-index (drawn_with parent.Root (showing c.args.layers.now))) (at.0 ∷ []), c.loop-place.invariant, append-nil (draw (showing c.args.layers.now) (length c.args.layers.now) at.0), c.len.ensures) refl)

pub returns : goal.returns
unfolding draw_order showing
returns c =
    c.loop-place.invariant ∙ ap (flat_map (draw (showing c.args.layers.now) (length c.args.layers.now))) (all_taken c.args.layers.now c.deref-place-items.result.now (drawn_with parent.Root (showing c.args.layers.now)) c.loop-place.place-index (rw c.deref-place-items.ensures.value c.in_ok-below.ensures.hang) c.loop-place-test.false)
