use Rattle.std.proofs.Common.{◌≡◌, map, take}
use Rattle.sf_display.specs.inner.Index.{by_layer}
use Rattle.sf_display.proofs.display.declared.Given as goal

abbrev pub invariant-loop-number : goal.invariant-loop-number
invariant-loop-number l = l.notes.items ≡ map by_layer (take l.number-index l.stacks)
