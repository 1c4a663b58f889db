-- A tree with its mirrors written out: behind its layers stand, for each mirror, copies of what it mirrors. A mirror is a pair:
-- the number of the layer that shows the copies, and the number of the layer that it shows with all below it.
use Rattle.std.specs.Prelude.{◌≡◌, ℕ, zero, suc, ◌+◌, ◌<◌, ◌≤◌, ◌==◌, not, Bool, true, false, ◌&&◌, if◌then◌else◌}
use Rattle.std.specs.Prelude.{List, [], ◌∷◌, ◌++◌, length, map, Option, Some, None, pos}
use Rattle.std.specs.List.{list_any}
use Rattle.std.specs.Option.{unwrap_or}
use Rattle.sf_base.specs.declared.ids.LayerId.{LayerId}
use Rattle.sf_view.specs.sf_layer.declared.kind.Kind.{Kind}
use Rattle.sf_view.specs.sf_layer.declared.kind.Kind.TheVariants as kind
use Rattle.sf_view.specs.sf_layer.declared.layer.Layer.{Layer}
use Rattle.sf_view.specs.sf_layer.declared.parent.Parent.{Parent}
use Rattle.sf_view.specs.sf_layer.declared.parent.Parent.TheVariants as parent
use Rattle.sf_view.specs.sf_tree.Layers.{has_layer, is_numbered, layer_of}
use Rattle.sf_output_shown.specs.ByLayer.{first_for}
use Rattle.sf_output_shown.specs.Cuts.{under}

-- the layer has this number
abbrev pub is_taken_by : ℕ → LayerId → Bool
is_taken_by number id = id.0 == number

-- no layer has the number, where these are taken
abbrev pub is_free : List LayerId → ℕ → Bool
is_free taken number = not (list_any (is_taken_by number) taken)

-- the first free number from one on, among so many
abbrev pub free_from : List LayerId → ℕ → ℕ → ℕ
free_from taken zero number = 0
free_from taken (suc steps) number = if is_free taken number then number else free_from taken steps (number + 1)

-- the least number from 1 that is not taken: of one number more than are taken one is free
unfoldable pub least_free : List LayerId → ℕ
least_free taken = free_from taken (length taken + 1) 1

-- a number is the least one from 1 that is not taken
pub record IsLeastFree (taken : List LayerId) (number : ℕ) : Type 0 where
  pub low : 1 ≤ number
  pub high : number ≤ length taken + 1
  pub free : is_free taken number ≡ true
  pub below : (k : ℕ) → 1 ≤ k → k < number → is_free taken k ≡ false

-- each layer with the number of its copy: each copy takes the least number that neither a layer nor a copy before it has
unfoldable pub named : List LayerId → List Layer → List (LayerId × LayerId)
named taken [] = []
named taken (layer ∷ layers) =
    let copy : LayerId = record { 0 = least_free taken } in
    (layer.number, copy) ∷ named (taken ++ copy ∷ []) layers

-- the number of a layer's copy, if it has one
abbrev pub copy_of : List (LayerId × LayerId) → LayerId → Option LayerId
copy_of names id = first_for names id

-- what a copy is relative to: the copy of what its layer is relative to, if that was copied too
abbrev pub relative_of : List (LayerId × LayerId) → Option LayerId → Option LayerId
relative_of names None = None
relative_of names (Some id) = copy_of names id

-- a copy hangs from this copy, or from nothing where there is none
abbrev pub parent_by : Option LayerId → Parent
parent_by None = parent.Nothing
parent_by (Some id) = parent.Layer id

-- what a copy hangs from: the copy of its layer's parent
abbrev pub parent_of : List (LayerId × LayerId) → Parent → Parent
parent_of names parent.Root = parent.Nothing
parent_of names (parent.Layer id) = parent_by (copy_of names id)
parent_of names parent.Nothing = parent.Nothing

-- the copy of what is mirrored hangs from the mirror, at its upper left corner, with z 0 and relative to none; each other copy
-- hangs from a copy and is relative to a copy or to none. All else is as it is on the layer, its buffer too.
abbrev pub copied : LayerId → LayerId → List (LayerId × LayerId) → Layer → Layer
copied mirror id names layer =
    let number = unwrap_or (copy_of names layer.number) (record { 0 = 0 }) in
    if is_numbered id layer
    then record layer { number = number; parent = parent.Layer mirror; position = (pos 0, pos 0); z = pos 0; relative = None }
    else record layer { number = number; parent = parent_of names layer.parent; relative = relative_of names layer.relative }

-- the number of a layer
abbrev pub number_of : Layer → LayerId
number_of layer = layer.number

-- the copies of a layer and of all below it, for a mirror, behind these layers
abbrev pub copies : List Layer → List Layer → LayerId → LayerId → List Layer
copies tree so_far mirror id = map (copied mirror id (named (map number_of so_far) (under tree id))) (under tree id)

-- layers of this kind can mirror
abbrev pub is_container : Kind → Bool
is_container kind.Container = true
is_container kind.Colour = false
is_container kind.Buffer = false

-- a layer that can show copies is there
abbrev pub holds_copies : Option Layer → Bool
holds_copies None = false
holds_copies (Some layer) = is_container layer.kind

-- the mirror is a container of the tree, and what it mirrors is in the tree
abbrev pub mirrors : List Layer → ℕ × ℕ → Bool
mirrors tree pair = holds_copies (layer_of tree (record { 0 = pair.0 })) && has_layer tree (record { 0 = pair.1 })

-- the layers so far, and the copies of one mirror more behind them
abbrev pub with_copies : List Layer → List Layer → ℕ × ℕ → List Layer
with_copies tree so_far pair =
    if mirrors tree pair then so_far ++ copies tree so_far (record { 0 = pair.0 }) (record { 0 = pair.1 }) else so_far

-- the mirrors one after another: each copies layers of the tree itself, so no copy is copied again
abbrev pub written_from : List Layer → List Layer → List (ℕ × ℕ) → List Layer
written_from tree so_far [] = so_far
written_from tree so_far (pair ∷ pairs) = written_from tree (with_copies tree so_far pair) pairs

-- a tree with its mirrors written out; a mirror is a pair: the layer that shows, and the one that it mirrors
unfoldable pub written : List Layer → List (ℕ × ℕ) → List Layer
written tree pairs = written_from tree tree pairs
