use Rattle.std.proofs.Common.{◌≤◌, take}
use Rattle.std.specs.List.{All, AllZip}
use Rattle.sf_view.specs.Placements.{AreFound}
use Rattle.sf_view.specs.Views.{Draws, IsClip}
use Rattle.sf_view.proofs.ViewLemmas.{with_content}
use Rattle.sf_view.proofs.view.view_in_order.Given as goal

abbrev pub invariant-loop-id : goal.invariant-loop-id
invariant-loop-id l = record {
  found : AreFound l.tree.layers l.width l.height l.found.items;
  draws : AllZip (Draws l.tree.layers l.width l.height) (with_content l.tree.layers (take l.id-index l.order)) l.drawn.items;
  clips : All (IsClip l.width l.height) l.drawn.items;
  orients : All (λ drawn. drawn.orient ≤ 7) l.drawn.items;
}
