use Rattle.std.proofs.Common.{◌≡◌, false, take}
use Rattle.std.specs.List.{All}
use Rattle.sf_tree.specs.inner.Search.{leads_to}
use Rattle.sf_tree.proofs.cycles.any_leads_to.Given as goal

abbrev pub invariant-loop-layer : goal.invariant-loop-layer
invariant-loop-layer l = All (λ layer. leads_to l.along l.id layer ≡ false) (take l.layer-index l.layers)
