-- What layers keep where some are picked, and where a part of what they have is changed.
use Rattle.std.proofs.Common.{◌≤◌, Bool, true, false, not, List, length, refl, arith, pos}
use Rattle.std.proofs.lemmas.Int.{ints}
use Rattle.std.proofs.lemmas.List.Filters.{length-filter_both}
use Rattle.std.specs.Prelude.{if◌then◌else◌}
use Rattle.sf_base.specs.declared.ids.LayerId.{LayerId}
use Rattle.sf_view.specs.sf_layer.declared.layer.Layer.{Layer}
use Rattle.sf_view.specs.sf_layer.Ranges.{IsCoordinate}
use Rattle.sf_output_shown.specs.Cuts.{is_under, under}

-- the upper left corner is a place where a layer can lie
pub origin : IsCoordinate (pos 0)
origin = record { low = omega (arith, ints); high = omega (arith, ints) }

-- what both have, each has
pub either : (P : Layer → Type 0) (b : Bool) (x y : Layer) → P x → P y → P (if b then x else y)
either P true x y p q = p
either P false x y p q = q

-- a layer and all below it are no more than the tree
pub under-few : (tree : List Layer) (id : LayerId) → length (under tree id) ≤ length tree
under-few tree id = omega (arith, length-filter_both (is_under tree id) (λ layer. not (is_under tree id layer)) (λ _. refl) tree)
