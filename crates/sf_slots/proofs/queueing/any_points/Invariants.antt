use Rattle.std.proofs.Common.{◌≡◌, take}
use Rattle.std.specs.List.{All}
use Rattle.sf_base.specs.Fences.{no_points}
use Rattle.sf_slots.proofs.queueing.any_points.Given as goal

abbrev pub invariant-loop-item : goal.invariant-loop-item
invariant-loop-item g l = All (λ item. item.fence ≡ no_points) (take l.item-index l.items)
