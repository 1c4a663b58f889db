-- What the words of a step mean.
use Rattle.std.specs.Prelude.{ℕ, Bool, ◌==◌, ◌&&◌, if◌then◌else◌, List, [], ◌∷◌, Option, Some, None, pos}
use Rattle.sf_base.specs.Fences.{Fence, no_points, with_point}
use Rattle.sf_base.specs.declared.format.Format.TheVariants as format
use Rattle.sf_base.specs.declared.geometry.Rect.{Rect}
use Rattle.sf_base.specs.declared.ids.LayerId.{LayerId}
use Rattle.sf_base.specs.declared.ids.QueueId.{QueueId}
use Rattle.sf_token.specs.sf_layer.declared.kind.Kind.TheVariants as kind
use Rattle.sf_token.specs.sf_layer.declared.op.Op.{Op}
use Rattle.sf_token.specs.sf_layer.declared.op.Op.TheVariants as op
use Rattle.sf_token.specs.sf_layer.declared.parent.Parent.{Parent}
use Rattle.sf_token.specs.sf_layer.declared.parent.Parent.TheVariants as parent
use Rattle.sf_script_scene.specs.sf_picture.declared.picture.Picture.{Picture}
use Rattle.sf_surface.specs.sf_slots.declared.slot.Held.{Held}
use Rattle.sf_script_scene.specs.declared.change.Change.{Change}
use Rattle.sf_script_scene.specs.declared.change.Change.TheVariants as change

-- no picture
abbrev pub no_picture : Picture
no_picture = record { number = 0; width = 0; height = 0; fills = []; format = format.Rgba }

-- the picture of a number
unfoldable pub picture_at : List Picture → ℕ → Picture
picture_at [] number = no_picture
picture_at (picture ∷ pictures) number = if picture.number == number then picture else picture_at pictures number

-- the queue of this number
abbrev pub queue_of : ℕ → QueueId
queue_of number = record { 0 = number }

-- the layer of this number
abbrev pub layer_of : ℕ → LayerId
layer_of number = record { 0 = number }

-- the fence of the points that a step names
abbrev pub with_points : Fence → List (ℕ × ℕ) → Fence
with_points fence [] = fence
with_points fence (point ∷ points) = with_points (with_point fence point.0 point.1) points

-- the fence of these points
abbrev pub fence_of : List (ℕ × ℕ) → Fence
fence_of points = with_points no_points points

-- the crop that a step names, or the whole buffer
abbrev pub whole : Held → Rect
whole held = record { x = pos 0; y = pos 0; width = held.width; height = held.height }

-- the crop that a step names, else the whole buffer
abbrev pub crop_of : Held → Option (ℕ × ℕ × ℕ × ℕ) → Rect
crop_of held None = whole held
crop_of held (Some crop) = record { x = pos crop.0; y = pos crop.1; width = crop.2; height = crop.3 }

-- what a layer hangs from: the root for 0, another layer for its number, nothing for none
abbrev pub parent_of : Option ℕ → Parent
parent_of None = parent.Nothing
parent_of (Some number) = if number == 0 then parent.Root else parent.Layer (layer_of number)

-- the operation that a change means
abbrev pub op_of : Change → Op
op_of (change.CreateContainer above) = op.Create kind.Container (parent_of above)
op_of (change.CreateColour above) = op.Create kind.Colour (parent_of above)
op_of (change.CreateBuffer above) = op.Create kind.Buffer (parent_of above)
op_of change.Destroy = op.Destroy
op_of (change.Reparent above) = op.Reparent (parent_of above)
op_of (change.Z z) = op.Z z
op_of (change.Relative layer z) = op.Relative (layer_of layer) z
op_of (change.Position x y) = op.Position x y
op_of (change.Crop x y width height) = op.Crop (Some (record { x = x; y = y; width = width; height = height }))
op_of change.CropNone = op.Crop None
op_of (change.Alpha alpha) = op.Alpha alpha
op_of (change.Hidden on) = op.Hidden on
op_of (change.Opaque on) = op.Opaque on
op_of (change.Colour colour) = op.Colour colour
op_of (change.Backpressure on) = op.Backpressure on
op_of (change.Orient orient) = op.Orient orient

-- a picture has a buffer's size
abbrev pub is_size_of : Picture → Held → Bool
is_size_of picture held = (picture.width == held.width) && (picture.height == held.height)
