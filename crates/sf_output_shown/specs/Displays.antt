-- Which layers a display shows: those of its stack, in the draw order. A stack is declared for the number of a layer, and all
-- that hangs from that layer is on it too.
use Rattle.std.specs.Prelude.{ℕ, ◌==◌, Bool, true, false, List, filter, find, Option, Some, None, ℤ}
use Rattle.std.specs.Option.{option_map_or}
use Rattle.sf_base.specs.declared.ids.LayerId.{LayerId}
use Rattle.sf_base.specs.declared.pixel.Rgba.{Rgba}
use Rattle.sf_view.specs.sf_layer.declared.layer.Layer.{Layer}
use Rattle.sf_view.specs.sf_layer.declared.parent.Parent.{Parent}
use Rattle.sf_view.specs.sf_layer.declared.parent.Parent.TheVariants as parent
use Rattle.sf_view.specs.sf_picture.declared.picture.Picture.{Picture}
use Rattle.sf_view.specs.sf_tree.DrawOrder.{draw_order}
use Rattle.sf_view.specs.sf_tree.Layers.{layer_of}
use Rattle.sf_view.specs.Ancestry.{ancestry}
use Rattle.sf_view.specs.Image.{image_in}

-- a layer hangs from the display itself
abbrev pub is_root : Parent → Bool
is_root parent.Root = true
is_root (parent.Layer _) = false
is_root parent.Nothing = false

-- the layer hangs from the root
abbrev pub is_top : Layer → Bool
is_top layer = is_root layer.parent

-- the layer on the way up from a layer, the layer included, that hangs from the root
abbrev pub top : List Layer → Layer → Option Layer
top tree layer = find is_top (ancestry tree layer)

-- the pair, of a layer's number and its stack, is of this number
abbrev pub is_of : ℕ → ℕ × ℕ → Bool
is_of number pair = pair.0 == number

-- the stack that is declared for a layer's number, 0 where none is
abbrev pub declared : List (ℕ × ℕ) → Layer → ℕ
declared stacks layer = option_map_or (λ (pair : ℕ × ℕ). pair.1) (find (is_of layer.number.0) stacks) 0

-- the stack of a layer, if there is one: what is declared for the layer above it that hangs from the root
abbrev pub stack_by : List Layer → List (ℕ × ℕ) → Option Layer → ℕ
stack_by tree stacks None = 0
stack_by tree stacks (Some layer) = option_map_or (declared stacks) (top tree layer) 0

-- the stack of the layer of this number
unfoldable pub stack_on : List Layer → List (ℕ × ℕ) → LayerId → ℕ
stack_on tree stacks id = stack_by tree stacks (layer_of tree id)

-- a layer is on this stack
abbrev pub is_on : List Layer → List (ℕ × ℕ) → ℕ → LayerId → Bool
is_on tree stacks stack id = stack_on tree stacks id == stack

-- the draw order without the layers that are not on this stack
abbrev pub order_on : List Layer → List (ℕ × ℕ) → ℕ → List LayerId
order_on tree stacks stack = filter (is_on tree stacks stack) (draw_order tree)

-- the image of a tree on this stack
abbrev pub image_on : (ℕ → Picture) → List Layer → List (ℕ × ℕ) → ℕ → ℤ → ℤ → Rgba
image_on picture tree stacks stack x y = image_in picture tree (order_on tree stacks stack) x y
