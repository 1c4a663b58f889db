use Rattle.std.proofs.Common.{◌≡◌, ◌++◌, take}
use Rattle.sf_damage.proofs.windows.of_both.Given as goal

abbrev pub invariant-loop-rect : goal.invariant-loop-rect
invariant-loop-rect l = l.all.items ≡ l.fn.one.items ++ take l.rect-index l.fn.other.items
