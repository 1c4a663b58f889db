use Rattle.std.proofs.Common.{◌≡◌, take, filter}
use Rattle.sf_display.specs.Stacks.{is_of_layer}
use Rattle.sf_display.proofs.stacks.stacks_in.Given as goal

abbrev pub invariant-loop-stack : goal.invariant-loop-stack
invariant-loop-stack l = l.kept.items ≡ filter (is_of_layer l.tree.layers) (take l.stack-index l.stacks)
