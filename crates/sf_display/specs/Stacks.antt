-- Which stacks are declared for layers of a tree.
use Rattle.std.specs.Prelude.{ℕ, Bool, List, filter}
use Rattle.sf_tree.specs.sf_layer.declared.layer.Layer.{Layer}
use Rattle.sf_tree.specs.Layers.{has_layer}

abbrev pub is_of_layer : List Layer → ℕ × ℕ → Bool
is_of_layer tree stack = has_layer tree (record { 0 = stack.0 })

abbrev pub stacks_in : List Layer → List (ℕ × ℕ) → List (ℕ × ℕ)
stacks_in tree stacks = filter (is_of_layer tree) stacks
