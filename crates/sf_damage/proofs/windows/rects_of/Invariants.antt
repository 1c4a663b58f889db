use Rattle.std.proofs.Common.{◌≡◌, take}
use Rattle.sf_damage.proofs.windows.rects_of.Given as goal

abbrev pub invariant-loop-rect : goal.invariant-loop-rect
invariant-loop-rect l = l.rects.items ≡ take l.rect-index l.region
