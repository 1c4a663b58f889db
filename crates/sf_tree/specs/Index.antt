-- What the index beside the list of layers knows.
use Rattle.std.specs.Prelude.{◌≡◌, ◌≤◌, ℕ, List, Option, Some, None}
use Rattle.std.specs.BTreeMap.{BTreeMap, get}
use Rattle.std.specs.Ordering.{nat_cmp}
use Rattle.sf_base.specs.declared.ids.LayerId.{LayerId}
use Rattle.sf_layer.specs.declared.layer.Layer.{Layer}
use Rattle.sf_tree.specs.Kept.{IsDistinct}
use Rattle.sf_tree.specs.Layers.{index_of}

-- the layer of this number stands at this place or before it
pub record StandsUpTo (tree : List Layer) (id : LayerId) (bound : ℕ) : Type 0 where
  pub place : ℕ
  pub found : index_of tree id ≡ Some place
  pub up_to : place ≤ bound

-- a noted place is one up to which the layer stands; where none is noted, there is no layer
abbrev pub IsNoted : List Layer → LayerId → Option ℕ → Type 0
IsNoted tree id None = index_of tree id ≡ None
IsNoted tree id (Some bound) = StandsUpTo tree id bound

pub record IsIndexed (tree : List Layer) (places : BTreeMap ℕ ℕ) : Type 0 where
  pub noted : (id : LayerId) → IsNoted tree id (get nat_cmp places id.0)
  pub distinct : IsDistinct tree
