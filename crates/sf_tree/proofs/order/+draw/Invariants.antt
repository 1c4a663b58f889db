use Rattle.std.proofs.Common.{◌≡◌, ◌+◌, ◌*◌, ◌++◌, List, take}
use Rattle.std.specs.List.{filter, flat_map}
use Rattle.sf_layer.specs.declared.layer.Layer.{Layer}
use Rattle.sf_tree.specs.DrawOrder.{draw}
use Rattle.sf_tree.specs.inner.Known.{AtPlaces, is_on_side, showing}
use Rattle.sf_tree.proofs.order.+draw.Given as goal

abbrev pub decreases-draw : goal.decreases-draw
decreases-draw l = 2 * l.steps

abbrev pub decreases-draw_side : goal.decreases-draw_side
decreases-draw_side l = 2 * l.steps + 1

abbrev pub invariant-draw_side-loop-place : goal.invariant-draw_side-loop-place
invariant-draw_side-loop-place l = (list : List Layer) → AtPlaces l.layers l.places list → l.order.items ≡ l.initial.order.items ++ flat_map (draw (showing l.layers) l.steps) (filter (is_on_side l.behind) (take l.place-index list))
