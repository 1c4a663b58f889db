-- What operations make of a tree, or why one is rejected.
use Rattle.std.specs.Prelude.{ℕ, ◌+◌, ◌==◌, nat_le, Bool, true, false, not, ◌&&◌, if◌then◌else◌, List}
use Rattle.std.specs.Prelude.{[], ◌∷◌, ◌++◌, length, map, filter, Option, Some, None, Result, Ok, Err, ℤ, pos}
use Rattle.sf_base.specs.declared.ids.LayerId.{LayerId}
use Rattle.sf_layer.specs.declared.kind.Kind.{Kind}
use Rattle.sf_layer.specs.declared.kind.Kind.TheVariants as kind
use Rattle.sf_layer.specs.declared.layer.Layer.{Layer}
use Rattle.sf_layer.specs.declared.op.Op.{Op}
use Rattle.sf_layer.specs.declared.op.Op.TheVariants as op
use Rattle.sf_layer.specs.declared.parent.Parent.{Parent}
use Rattle.sf_layer.specs.declared.parent.Parent.TheVariants as parent
use Rattle.sf_tree.specs.declared.reject.Reject.{Reject}
use Rattle.sf_tree.specs.declared.reject.Reject.TheVariants as reject
use Rattle.sf_tree.specs.Rejects.{number_of}
use Rattle.sf_tree.specs.Trees.{TreeOf}
use Rattle.sf_tree.specs.Layers.{is_numbered, layer_of, has_layer, has_parent}
use Rattle.sf_tree.specs.Steps.{parent_steps, all_steps, reaches_itself}

-- a layer as it is made
abbrev pub new_layer : LayerId → Kind → Parent → Layer
new_layer id kind parent =
    record {
      number = id;
      kind = kind;
      parent = parent;
      relative = None;
      z = pos 0;
      position = (pos 0, pos 0);
      crop = None;
      alpha = 255;
      hidden = false;
      opaque = false;
      backpressure = false;
      colour = record { r = 0; g = 0; b = 0; a = 255 };
      shown = None;
      orient = 0;
    }

-- the tree with an edit of the layer of this number
abbrev pub with_layer : LayerId → (Layer → Layer) → List Layer → List Layer
with_layer id edit tree = map (λ layer. if is_numbered id layer then edit layer else layer) tree

-- what a layer hangs from once this layer is gone
abbrev pub parent_without : LayerId → Parent → Parent
parent_without id parent.Root = parent.Root
parent_without id (parent.Layer other) = if other.0 == id.0 then parent.Nothing else parent.Layer other
parent_without id parent.Nothing = parent.Nothing

-- what a layer is relative to once this layer is gone
abbrev pub relative_without : LayerId → Option LayerId → Option LayerId
relative_without id None = None
relative_without id (Some other) = if other.0 == id.0 then None else Some other

-- a layer that hung from the destroyed one has no parent; one that was relative to it is relative to none
abbrev pub without_steps_to : LayerId → Layer → Layer
without_steps_to id layer =
    record layer { parent = parent_without id layer.parent; relative = relative_without id layer.relative }

-- the tree without the layer of this number
abbrev pub without : LayerId → List Layer → List Layer
without id tree = map (without_steps_to id) (filter (λ layer. not (is_numbered id layer)) tree)

-- what an operation that moves and removes nothing makes of its layer
abbrev pub edited : Op → Layer → Layer
edited (op.Z z) layer = record layer { z = z; relative = None }
edited (op.Position x y) layer = record layer { position = (x, y) }
edited (op.Crop crop) layer = record layer { crop = crop }
edited (op.Alpha alpha) layer = record layer { alpha = alpha }
edited (op.Hidden hidden) layer = record layer { hidden = hidden }
edited (op.Opaque opaque) layer = record layer { opaque = opaque }
edited (op.Colour colour) layer = record layer { colour = colour }
edited (op.Backpressure backpressure) layer = record layer { backpressure = backpressure }
edited (op.Show shown) layer = record layer { shown = Some shown }
edited (op.Orient orient) layer = record layer { orient = orient }
edited _ layer = layer

-- a colour is for colour layers, a buffer for buffer layers
abbrev pub fits_kind : Op → Kind → Bool
fits_kind (op.Colour _) kind.Colour = true
fits_kind (op.Colour _) _ = false
fits_kind (op.Show _) kind.Buffer = true
fits_kind (op.Show _) _ = false
fits_kind _ _ = true

-- `create`: the new layer is the last, unless there are as many as there can be
unfoldable pub created : ℕ → List Layer → LayerId → Kind → Parent → Result (List Layer) Reject
created most tree id kind parent =
    if not (has_parent tree parent) then Err reject.UnknownLayer else
    if has_layer tree id then Err reject.LayerExists else
    if nat_le most (length tree) then Err reject.TooManyLayers else
    Ok (tree ++ new_layer id kind parent ∷ [])

-- `destroy`
unfoldable pub destroyed : List Layer → LayerId → Result (List Layer) Reject
destroyed tree id = if has_layer tree id then Ok (without id tree) else Err reject.UnknownLayer

-- `reparent`: what the layer is relative to stays
unfoldable pub reparented : List Layer → LayerId → Parent → Result (List Layer) Reject
reparented tree id parent =
    let next = with_layer id (λ layer. record layer { parent = parent }) tree in
    if not (has_layer tree id && has_parent tree parent) then Err reject.UnknownLayer else
    if reaches_itself parent_steps next id then Err reject.ParentCycle else
    if reaches_itself all_steps next id then Err reject.DrawCycle else Ok next

-- `relative`
unfoldable pub made_relative : List Layer → LayerId → LayerId → ℤ → Result (List Layer) Reject
made_relative tree id other z =
    let next = with_layer id (λ layer. record layer { relative = Some other; z = z }) tree in
    if not (has_layer tree id && has_layer tree other) then Err reject.UnknownLayer else
    if reaches_itself all_steps next id then Err reject.DrawCycle else Ok next

-- the layers with one of them edited, if it is there and of a kind that has what is edited
abbrev pub edited_layer : List Layer → LayerId → Op → Option Layer → Result (List Layer) Reject
edited_layer tree id operation None = Err reject.UnknownLayer
edited_layer tree id operation (Some layer) =
    if fits_kind operation layer.kind then Ok (with_layer id (edited operation) tree) else Err reject.WrongKind

-- the layers after an operation on the layer of this number, where there can be so many, or the first cause, by number, to reject it
abbrev pub changed : ℕ → List Layer → LayerId → Op → Result (List Layer) Reject
changed most tree id (op.Create kind parent) = created most tree id kind parent
changed most tree id op.Destroy = destroyed tree id
changed most tree id (op.Reparent parent) = reparented tree id parent
changed most tree id (op.Relative other z) = made_relative tree id other z
changed most tree id operation = edited_layer tree id operation (layer_of tree id)

-- which operation was rejected, from 1, and why
pub record Rejection : Type 0 where
  pub cause : ℕ
  pub op : ℕ

-- the rest after an operation of this number, unless that is rejected
abbrev pub then_after : ℕ → Result (List Layer) Reject → (List Layer → Result (List Layer) Rejection) → Result (List Layer) Rejection
then_after number (Ok tree) rest = rest tree
then_after number (Err cause) rest = Err (record { cause = number_of cause; op = number })

-- the layers after operations in order of which the first has this number, or the first that is rejected
abbrev pub after_from : ℕ → ℕ → List Layer → List (LayerId × Op) → Result (List Layer) Rejection
after_from most number layers [] = Ok layers
after_from most number layers (operation ∷ operations) =
    then_after number (changed most layers operation.0 operation.1) (λ next. after_from most (number + 1) next operations)

-- the tree with these layers, unless an operation was rejected
abbrev pub with_layers : TreeOf → Result (List Layer) Rejection → Result TreeOf Rejection
with_layers tree (Ok layers) = Ok (record tree { layers = layers })
with_layers tree (Err rejection) = Err rejection

-- the tree after all operations, in order, or the first that is rejected
abbrev pub after : TreeOf → List (LayerId × Op) → Result TreeOf Rejection
after tree operations = with_layers tree (after_from tree.most 1 tree.layers operations)
