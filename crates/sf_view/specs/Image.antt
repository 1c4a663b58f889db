-- The image of a layer tree, one point at a time.
use Rattle.std.specs.Prelude.{ℕ, Bool, false, ◌&&◌, if◌then◌else◌, List, [], ◌∷◌, filter, filter_map, Option, Some, None, ℤ}
use Rattle.sf_base.specs.Paint.{painted}
use Rattle.sf_base.specs.declared.ids.LayerId.{LayerId}
use Rattle.sf_base.specs.declared.pixel.Rgba.{Rgba}
use Rattle.sf_tree.specs.sf_layer.declared.layer.Layer.{Layer}
use Rattle.sf_picture.specs.declared.picture.Picture.{Picture}
use Rattle.sf_tree.specs.DrawOrder.{draw_order}
use Rattle.sf_tree.specs.Layers.{layer_of}
use Rattle.sf_view.specs.declared.content.Content.{Content}
use Rattle.sf_view.specs.Ancestry.{alpha_of, ancestry, is_in_crops, place_of}
use Rattle.sf_view.specs.Contents.{content_of, has_content, is_in_content, pixel_of, source_of}

-- the layers of a tree that are drawn in an order: those of these numbers that have content
unfoldable pub drawn_in : List Layer → List LayerId → List Layer
drawn_in tree order = filter has_content (filter_map (layer_of tree) order)

-- a layer's place and its alpha, from the root down
abbrev pub layer_place : List Layer → Layer → ℤ × ℤ
layer_place tree layer = place_of (ancestry tree layer)

-- the alpha of a layer with those of the layers above it
abbrev pub layer_alpha : List Layer → Layer → ℕ
layer_alpha tree layer = alpha_of (ancestry tree layer)

-- a point is in what a layer shows, if it shows something
abbrev pub is_in_some : Option Content → ℕ → ℤ × ℤ → ℤ → ℤ → Bool
is_in_some None orient place x y = false
is_in_some (Some content) orient place x y = is_in_content content orient place x y

-- a point is in a layer where it is in the crop of the layer and of each ancestor that has one, and in its content
abbrev pub is_in_layer : List Layer → Layer → ℤ → ℤ → Bool
is_in_layer tree layer x y =
    is_in_crops (ancestry tree layer) x y && is_in_some (content_of layer) layer.orient (layer_place tree layer) x y

-- what a layer shows painted over a point, if it shows something
abbrev pub paint_content : (ℕ → Picture) → List Layer → Layer → ℤ → ℤ → Rgba → Option Content → Rgba
paint_content picture tree layer x y under None = under
paint_content picture tree layer x y under (Some content) =
    painted under (source_of layer.opaque (pixel_of picture content layer.orient (layer_place tree layer) x y)) (layer_alpha tree layer)

-- a pixel under the layers of a list, from the back; the point is in some of them
abbrev pub under_layers : (ℕ → Picture) → List Layer → ℤ → ℤ → Rgba → List Layer → Rgba
under_layers picture tree x y under [] = under
under_layers picture tree x y under (layer ∷ layers) =
    under_layers picture tree x y
    (if is_in_layer tree layer x y then paint_content picture tree layer x y under (content_of layer) else under)
    layers

-- a display is opaque black where nothing is drawn
abbrev pub opaque_black : Rgba
opaque_black = record { r = 0; g = 0; b = 0; a = 255 }

-- the image at a point of the layers of an order, where each buffer holds the picture of the number that is shown
unfoldable pub image_in : (ℕ → Picture) → List Layer → List LayerId → ℤ → ℤ → Rgba
image_in picture tree order x y = under_layers picture tree x y opaque_black (drawn_in tree order)

-- the image of a tree: that of its draw order
unfoldable pub image : (ℕ → Picture) → List Layer → ℤ → ℤ → Rgba
image picture tree x y = image_in picture tree (draw_order tree) x y
