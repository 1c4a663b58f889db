-- Declared stacks by the layers that they are declared for.
use Rattle.std.specs.Prelude.{ℕ, List}
use Rattle.std.specs.Option.{unwrap_or}
use Rattle.sf_base.specs.declared.ids.LayerId.{LayerId}
use Rattle.sf_output_shown.specs.ByLayer.{first_for}

-- the pair with the layer of its number
abbrev pub by_layer : ℕ × ℕ → LayerId × ℕ
by_layer pair = (record { 0 = pair.0 }, pair.1)

-- the stack that is declared for a layer, 0 where none is
abbrev pub declared_for : List (LayerId × ℕ) → LayerId → ℕ
declared_for declared id = unwrap_or (first_for declared id) 0
