use Rattle.std.proofs.Common.{◌≡◌, ◌<◌, ◌+◌, Some, sym, ◌∙◌, subst, ◌++◌, ◌∷◌, [], take, arith}
use Rattle.sf_layer.specs.declared.layer.Layer.{Layer}
use Rattle.sf_layer.specs.declared.parent.Parent.TheVariants as parent
use Rattle.sf_tree.specs.DrawOrder.{draw, drawn_with}
use Rattle.sf_tree.specs.inner.Known.{AtPlaces, is_on_side, showing}
use Rattle.sf_tree.proofs.BelowLemmas.{all_taken, at_index, draw-suc, joined, list_at, next_at, on_side-more, on_side-same}
use Rattle.sf_tree.proofs.ShowLemmas.{inside_from_slice_get, layer_at}
use Rattle.sf_tree.proofs.ZOrder.{on_ok_weaker}
use Rattle.sf_tree.proofs.order.+draw.Goals as goal

pub draw-draw_side-requires : goal.draw-draw_side-requires
draw-draw_side-requires t c =
    let at = layer_at c.args.layers.now c.args.place c.requires.inside in
    (omega arith, (c.requires.lists, (drawn_with (parent.Layer at.0.number) (showing c.args.layers.now), rw c.deref.ensures.value (list_at (λ list. list.items) c.args.layers.now (showing c.args.layers.now) c.args.lists.now c.args.place c.index-lists-place.result at.0 c.requires.lists at.1 c.index-lists-place.is))))

pub draw-draw_side-requires-2 : goal.draw-draw_side-requires-2
draw-draw_side-requires-2 t c =
    let at = layer_at c.args.layers.now c.args.place c.requires.inside in
    (omega arith, (c.requires.lists, (drawn_with (parent.Layer at.0.number) (showing c.args.layers.now), rw c.deref-2.ensures.value (list_at (λ list. list.items) c.args.layers.now (showing c.args.layers.now) c.args.lists.now c.args.place c.index-lists-place-2.result at.0 c.requires.lists at.1 c.index-lists-place-2.is))))

pub draw-returns : goal.draw-returns
draw-returns t c =
    on_ok_weaker c.draw_side-2.result (λ second layer at.
    let both : Some c.at.result ≡ Some layer = sym c.at.ensures ∙ at in
    let same : c.at.result ≡ layer = cc in
    let one : AtPlaces c.args.layers.now c.deref.result.now (drawn_with (parent.Layer c.at.result.number) (showing c.args.layers.now)) = rw c.deref.ensures.value (list_at (λ list. list.items) c.args.layers.now (showing c.args.layers.now) c.args.lists.now c.args.place c.index-lists-place.result c.at.result c.requires.lists c.at.ensures c.index-lists-place.is) in
    let two : AtPlaces c.args.layers.now c.deref-2.result.now (drawn_with (parent.Layer c.at.result.number) (showing c.args.layers.now)) = rw c.deref-2.ensures.value (list_at (λ list. list.items) c.args.layers.now (showing c.args.layers.now) c.args.lists.now c.args.place c.index-lists-place-2.result c.at.result c.requires.lists c.at.ensures c.index-lists-place-2.is) in
    let some : 0 < c.args.steps = omega arith in
    subst (λ (l : Layer). c.draw_side-2.new.order.items ≡ c.args.order.now.items ++ draw (showing c.args.layers.now) c.args.steps l) same
    (second (drawn_with (parent.Layer c.at.result.number) (showing c.args.layers.now)) two
    ∙ (rw (c.in_ok-push.ensures.items, c.in_ok-draw_side.ensures (drawn_with (parent.Layer c.at.result.number) (showing c.args.layers.now)) one, draw-suc (showing c.args.layers.now) c.args.steps c.at.result some) (joined c.args.order.now.items _ _ c.at.result.number)))) c.draw_side-2.ensures

pub draw_side-at-requires : goal.draw_side-at-requires
draw_side-at-requires t c =
    let at = at_index c.args.layers.now c.args.places.now c.requires.places.0 c.loop-place.place-index 0 c.requires.places.1 c.loop-place-test.true in
    inside_from_slice_get c.args.layers.now _ at.0 at.1

pub draw_side-loop-place-preserved-then-not-is_on_side : goal.draw_side-loop-place-preserved-then-not-is_on_side
draw_side-loop-place-preserved-then-not-is_on_side t c list all =
    let more : take (c.loop-place.place-index + 1) list ≡ take c.loop-place.place-index list ++ c.at.result ∷ [] = next_at c.args.layers.now c.args.places.now list c.loop-place.place-index 0 c.at.result all c.loop-place-test.true c.at.ensures in
    c.loop-place.invariant list all ∙ (rw more (on_side-same (draw (showing c.args.layers.now) c.args.steps) (is_on_side c.args.behind) c.args.order.now.items (take c.loop-place.place-index list) c.at.result (sym c.is_on_side.ensures ∙ grind arith)))

pub draw_side-draw-requires : goal.draw_side-draw-requires
draw_side-draw-requires t c =
    (omega arith, (inside_from_slice_get c.args.layers.now _ c.at.result c.at.ensures, c.requires.lists))

pub draw_side-loop-place-preserved : goal.draw_side-loop-place-preserved
draw_side-loop-place-preserved t c list all =
    let more : take (c.loop-place.place-index + 1) list ≡ take c.loop-place.place-index list ++ c.at.result ∷ [] = next_at c.args.layers.now c.args.places.now list c.loop-place.place-index 0 c.at.result all c.loop-place-test.true c.at.ensures in
    c.in_ok-draw.ensures c.at.result c.at.ensures ∙ (rw (more, c.loop-place.invariant list all) (on_side-more (draw (showing c.args.layers.now) c.args.steps) (is_on_side c.args.behind) c.args.order.now.items (take c.loop-place.place-index list) c.at.result (sym c.is_on_side.ensures ∙ grind arith)))

pub draw_side-returns : goal.draw_side-returns
draw_side-returns t c list all =
    rw (sym (all_taken c.args.layers.now c.args.places.now list c.loop-place.place-index all c.loop-place-test.false)) (c.loop-place.invariant list all)
