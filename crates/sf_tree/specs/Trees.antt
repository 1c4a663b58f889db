-- A tree as contracts see it.
use Rattle.std.specs.Prelude.{ℕ, List}
use Rattle.sf_layer.specs.declared.layer.Layer.{Layer}

-- the layers, in the order of their creation, and how many there can be
pub record TreeOf : Type 0 where
  pub layers : List Layer
  pub most : ℕ
