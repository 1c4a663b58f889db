-- Which buffers stand for layers.
use Rattle.std.specs.Prelude.{◌≡◌, List, [], ◌∷◌, Option, Some, None}
use Rattle.std.specs.List.{find}
use Rattle.std.specs.Option.{option_map}
use Rattle.sf_base.specs.declared.ids.LayerId.{LayerId}
use Rattle.sf_view.specs.sf_layer.declared.layer.Layer.{Layer}
use Rattle.sf_view.specs.sf_layer.declared.shown.Shown.{Shown}
use Rattle.sf_view.specs.sf_tree.Layers.{layer_of}
use Rattle.sf_commit.specs.OnLayers.{OnLayer, is_on}

-- what a layer shows that was found, or nothing where there is none
abbrev pub shown_at : Option Layer → Option Shown
shown_at None = None
shown_at (Some layer) = layer.shown

module _ {L : Type 0} where
  -- at most one buffer stands for a layer
  abbrev pub IsOnce : List (OnLayer L) → Type 0
  IsOnce [] = Unit {0}
  IsOnce (one ∷ others) = (find (is_on one.layer) others ≡ None) × IsOnce others

  abbrev pub shown_for : List (OnLayer L) → LayerId → Option Shown
  shown_for on id = option_map (λ (one : OnLayer L). one.shown) (find (is_on id) on)

  -- what the layer of a number shows is the one buffer that stands for it, and none stands for a layer that is not there
  pub record Stands (layers : List Layer) (on : List (OnLayer L)) : Type 0 where
    pub same : (id : LayerId) → shown_at (layer_of layers id) ≡ shown_for on id
    pub once : IsOnce on
