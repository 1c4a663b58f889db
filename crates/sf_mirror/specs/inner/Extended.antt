-- Layers behind those of a tree.
use Rattle.std.specs.Prelude.{◌≡◌, true, List}
use Rattle.sf_base.specs.declared.ids.LayerId.{LayerId}
use Rattle.sf_output_shown.specs.sf_layer.declared.layer.Layer.{Layer}
use Rattle.sf_output_shown.specs.sf_tree.Kept.{IsTree}
use Rattle.sf_output_shown.specs.sf_tree.Layers.{has_layer}

-- the layers are those of a tree that can have as many as any, and each layer of another tree is among them
pub record Extends (tree layers : List Layer) : Type 0 where
  pub kept : IsTree 9216 layers
  pub stays : (id : LayerId) → has_layer tree id ≡ true → has_layer layers id ≡ true
