-- Which steps a search of the tree goes along, and what it knows on the way.
use Rattle.std.specs.Prelude.{◌≡◌, ℕ, ◌<◌, ◌==◌, ◌⊎◌, Bool, true, false, List, []}
use Rattle.std.specs.Prelude.{◌∷◌, ◌++◌, ◌+◌, length, Option, Some, None, IfSome, slice_index_or}
use Rattle.std.specs.List.{AllByRecursion, Contains, list_any}
use Rattle.sf_base.specs.declared.ids.LayerId.{LayerId}
use Rattle.sf_layer.specs.declared.layer.Layer.{Layer}
use Rattle.sf_tree.specs.declared.cycles.Along.{Along}
use Rattle.sf_tree.specs.declared.cycles.Along.TheVariants as along
use Rattle.sf_tree.specs.Steps.{parent_steps, all_steps, steps_of, reaches}
use Rattle.sf_tree.specs.Layers.{layer_of, index_of}

abbrev pub steps_along : Along → Layer → List LayerId
steps_along along.Parents layer = parent_steps layer
steps_along along.All layer = all_steps layer

abbrev pub relative_along : Along → Layer → Option LayerId
relative_along along.Parents layer = None
relative_along along.All layer = layer.relative

-- a step from the layer leads to the layer of this number
abbrev pub leads_to : Along → LayerId → Layer → Bool
leads_to along id layer = list_any (λ next. next.0 == id.0) (steps_along along layer)

-- another layer is reached from the first one, in at most so many steps; the first one in none
abbrev pub IsReached : (Layer → List LayerId) → List Layer → LayerId → ℕ → LayerId → Type 0
IsReached steps tree first k id = ((k ≡ 0) × (id.0 ≡ first.0)) ⊎ (reaches steps tree k first id ≡ true)

-- how many marks are set
abbrev pub mark_count : List Bool → ℕ
mark_count [] = 0
mark_count (true ∷ marks) = 1 + mark_count marks
mark_count (false ∷ marks) = mark_count marks

-- what a search from the first layer has found, and the marks of what was found by place
pub record IsSearch (steps : Layer → List LayerId) (tree : List Layer) (first : LayerId) (found : List LayerId) (marks : List Bool) : Type 0 where
  pub marked : length marks ≡ length tree
  pub counted : mark_count marks ≡ length found
  pub known : (id : LayerId) (place : ℕ) → index_of tree id ≡ Some place → slice_index_or marks place false ≡ true → Contains found id
  pub reached : (k : ℕ) (d : LayerId) → k < length found → IsReached steps tree first k (slice_index_or found k d)

-- a step does not lead to the first layer, and what it leads to was found, if it is in the tree
pub record IsFollowed (tree : List Layer) (first : LayerId) (found : List LayerId) (next : LayerId) : Type 0 where
  pub other : (next.0 == first.0) ≡ false
  pub noted : (index_of tree next ≡ None) ⊎ Contains found next

-- all steps from a layer were followed
abbrev pub IsExplored : (Layer → List LayerId) → List Layer → LayerId → List LayerId → LayerId → Type 0
IsExplored steps tree first found id = AllByRecursion (IsFollowed tree first found) (steps_of steps (layer_of tree id))

-- more was found, and nothing forgotten
abbrev pub Grows : List LayerId → List LayerId → Type 0
Grows old new = (more : List LayerId) × (new ≡ old ++ more)

-- a search goes on, with a step that was followed
pub record GoesOn (steps : Layer → List LayerId) (tree : List Layer) (first : LayerId) (found : List LayerId) (marks : List Bool)
    (next : Option LayerId) : Type 0 where
  pub search : IsSearch steps tree first found marks
  pub followed : IfSome next (IsFollowed tree first found)

-- whatever the steps are: where a step leads on from a layer that was found, a search goes on with it
abbrev pub KeepsSearch : List Layer → LayerId → Option LayerId → List LayerId → List Bool → List LayerId → List Bool → Type 0
KeepsSearch tree first next found marks more_found more_marks =
    (steps : Layer → List LayerId) (k : ℕ) → IfSome next (λ id. reaches steps tree (k + 1) first id ≡ true)
    → k < length found → IsSearch steps tree first found marks → GoesOn steps tree first more_found more_marks next
