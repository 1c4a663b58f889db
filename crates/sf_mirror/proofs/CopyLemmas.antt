-- Copies by themselves.
use Rattle.std.proofs.Common.{◌+◌, ◌<◌, ◌≤◌, Bool, true, false, List, [], ◌∷◌, ◌++◌, length, map, Some, arith, length-append, cond}
use Rattle.std.proofs.lemmas.List.{length-map}
use Rattle.std.specs.List.{All}
use Rattle.std.specs.Prelude.{find, IfSome}
use Rattle.std.specs.Option.{option_map}
use Rattle.std.proofs.lemmas.List.Elements.{All-head, All-tail}
use Rattle.sf_base.specs.declared.ids.LayerId.{LayerId}
use Rattle.sf_output_shown.specs.sf_layer.declared.layer.Layer.{Layer}
use Rattle.sf_output_shown.specs.sf_tree.Kept.{IsLayerInRange, IsOfKind}
use Rattle.sf_output_shown.specs.sf_tree.Layers.{is_numbered}
use Rattle.sf_output_shown.specs.ByLayer.{is_for}
use Rattle.sf_output_shown.specs.Copies.{copied, copy_of}
use Rattle.sf_output_shown.specs.Cuts.{under}
use Rattle.sf_output_shown.proofs.KeepingLemmas.{either, origin, under-few}

pub positive_copy : (names : List (LayerId × LayerId)) (id : LayerId) → All (λ (name : LayerId × LayerId). 0 < name.1.0) names → IfSome (copy_of names id) (λ copy. 0 < copy.0)
positive_copy [] id all = tt
positive_copy (name ∷ names) id all = by_test (is_for id name) (positive_copy names id (All-tail (λ (n : LayerId × LayerId). 0 < n.1.0) name names all))
  where
    by_test : (b : Bool) → IfSome (copy_of names id) (λ copy. 0 < copy.0) → IfSome (option_map (λ (n : LayerId × LayerId). n.1) (cond b (Some name) (find (is_for id) names))) (λ copy. 0 < copy.0)
    by_test true ih = All-head (λ (n : LayerId × LayerId). 0 < n.1.0) name names all
    by_test false ih = ih

module _ (mirror id : LayerId) (names : List (LayerId × LayerId)) where
  pub in_range : (layer : Layer) → IsLayerInRange layer → IsLayerInRange (copied mirror id names layer)
  in_range layer r = either IsLayerInRange (is_numbered id layer) _ _
      (record { x = origin; y = origin; crop = r.crop; shown = r.shown; orient = r.orient })
      (record { x = r.x; y = r.y; crop = r.crop; shown = r.shown; orient = r.orient })

  pub of_kind : (layer : Layer) → IsOfKind layer → IsOfKind (copied mirror id names layer)
  of_kind layer k = either IsOfKind (is_numbered id layer) _ _ (record { colour = k.colour; shown = k.shown }) (record { colour = k.colour; shown = k.shown })

-- copies are no more than the tree has layers
pub long_copies : (tree so_far : List Layer) (mirror id : LayerId) (names : List (LayerId × LayerId)) → length (so_far ++ map (copied mirror id names) (under tree id)) ≤ length so_far + length tree
long_copies tree so_far mirror id names =
    omega (arith, length-append so_far (map (copied mirror id names) (under tree id)), length-map (under tree id) (copied mirror id names), under-few tree id)
