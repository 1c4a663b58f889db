use Rattle.std.proofs.Common.{◌≡◌, length, take}
use Rattle.std.specs.List.{flat_map}
use Rattle.sf_layer.specs.declared.parent.Parent.TheVariants as parent
use Rattle.sf_tree.specs.DrawOrder.{draw, drawn_with}
use Rattle.sf_tree.specs.inner.Known.{showing}
use Rattle.sf_tree.proofs.order.draw_order.Given as goal

abbrev pub invariant-loop-place : goal.invariant-loop-place
invariant-loop-place l = l.order.items ≡ flat_map (draw (showing l.layers) (length l.layers)) (take l.place-index (drawn_with parent.Root (showing l.layers)))
