-- Ranks that layers have by their places, 0 where none is noted.
use Rattle.std.specs.Prelude.{◌≡◌, ℕ, ◌+◌, ◌<◌, ◌≤◌, List, Option, Some, None, slice_get, slice_index_or}
use Rattle.std.specs.List.{All}
use Rattle.sf_base.specs.declared.ids.LayerId.{LayerId}
use Rattle.sf_layer.specs.declared.layer.Layer.{Layer}
use Rattle.sf_layer.specs.declared.parent.Parent.TheVariants as parent
use Rattle.sf_tree.specs.Kept.{IsRanked, IsTied}
use Rattle.sf_tree.specs.inner.Known.{IsBounded}
use Rattle.sf_tree.specs.Layers.{index_of}

-- the rank at a place, 0 where there is none
abbrev pub rank_at : List ℕ → Option ℕ → ℕ
rank_at ranks None = 0
rank_at ranks (Some place) = slice_index_or ranks place 0

-- the rank of the layer of a number
abbrev pub rank_by : List Layer → List ℕ → ℕ → ℕ
rank_by layers ranks number = rank_at ranks (index_of layers (record { 0 = number }))

-- the layer of this number has a rank, and a lower one than this
pub record HasLower (layers : List Layer) (ranks : List ℕ) (rank : ℕ) (id : LayerId) : Type 0 where
  pub noted : 0 < rank_by layers ranks id.0
  pub low : rank_by layers ranks id.0 < rank

-- the layer's steps lead to layers that have lower ranks than this
pub record LeadsLower (layers : List Layer) (ranks : List ℕ) (rank : ℕ) (layer : Layer) : Type 0 where
  pub parent : (id : LayerId) → layer.parent ≡ parent.Layer id → HasLower layers ranks rank id
  pub relative : (id : LayerId) → layer.relative ≡ Some id → HasLower layers ranks rank id

-- the steps of each layer lead to layers that have lower ranks than its own
abbrev pub AllLeadLower : List Layer → List ℕ → Type 0
AllLeadLower layers ranks =
    (place : ℕ) (layer : Layer) → slice_get layers place ≡ Some layer → LeadsLower layers ranks (slice_index_or ranks place 0) layer

-- ranks that are noted are kept
abbrev pub KeepsRanks : List ℕ → List ℕ → Type 0
KeepsRanks old new = (place : ℕ) → 0 < slice_index_or old place 0 → slice_index_or new place 0 ≡ slice_index_or old place 0

-- all steps lead to lower layers in a ranking, ranks exceed it by at most 1, and a layer with a rank leads to layers with lower ranks
pub record IsSound (layers : List Layer) (ranking : ℕ → ℕ) (ranks : List ℕ) : Type 0 where
  pub bounded : IsBounded layers ranking
  pub tied : All (IsTied layers) layers
  pub most : (place : ℕ) (layer : Layer) → slice_get layers place ≡ Some layer → slice_index_or ranks place 0 ≤ ranking layer.number.0 + 1
  pub lower : (place : ℕ) (layer : Layer) → slice_get layers place ≡ Some layer → 0 < slice_index_or ranks place 0
      → LeadsLower layers ranks (slice_index_or ranks place 0) layer

-- a rank was found, and the ranks are sound
pub record IsFound (layers : List Layer) (ranking : ℕ → ℕ) (ranks : List ℕ) (rank : ℕ) : Type 0 where
  pub sound : IsSound layers ranking ranks
  pub noted : 0 < rank

-- the layers that this layer's steps lead to have ranks, of which none is greater than this one
pub record IsFoundBelow (layers : List Layer) (ranking : ℕ → ℕ) (ranks : List ℕ) (layer : Layer) (rank : ℕ) : Type 0 where
  pub sound : IsSound layers ranking ranks
  pub low : rank ≤ ranking layer.number.0
  pub lower : LeadsLower layers ranks (rank + 1) layer

-- in each ranking by which these ranks are sound, these steps suffice to find the rank of the layer at a place
abbrev pub FindsRank : List Layer → List ℕ → List ℕ → ℕ → ℕ → ℕ → Type 0
FindsRank layers old new place steps rank =
    (ranking : ℕ → ℕ) (layer : Layer) → IsSound layers ranking old → slice_get layers place ≡ Some layer
    → ranking layer.number.0 < steps → IsFound layers ranking new rank

-- and to find the ranks of the layers that a layer's steps lead to
abbrev pub FindsBelow : List Layer → List ℕ → List ℕ → Layer → ℕ → ℕ → Type 0
FindsBelow layers old new layer steps rank =
    (ranking : ℕ → ℕ) → IsSound layers ranking old → IsTied layers layer → IsRanked ranking layer
    → ranking layer.number.0 ≤ steps → IsFoundBelow layers ranking new layer rank
