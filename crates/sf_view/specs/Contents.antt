-- What layers show.
use Rattle.std.specs.Prelude.{ℕ, Bool, true, Option, Some, None, is_some, ℤ, pos, negsuc, neg_ℤ, ◌+ℤ◌, if◌then◌else◌}
use Rattle.sf_base.specs.Geometry.{covers}
use Rattle.sf_base.specs.declared.pixel.Rgba.{Rgba}
use Rattle.sf_tree.specs.sf_layer.declared.kind.Kind.{Kind}
use Rattle.sf_tree.specs.sf_layer.declared.kind.Kind.TheVariants as kind
use Rattle.sf_tree.specs.sf_layer.declared.layer.Layer.{Layer}
use Rattle.sf_tree.specs.sf_layer.declared.shown.Shown.{Shown}
use Rattle.sf_picture.specs.Pixels.{pixel_at}
use Rattle.sf_picture.specs.declared.picture.Picture.{Picture}
use Rattle.sf_view.specs.declared.content.Content.{Content}
use Rattle.sf_view.specs.declared.content.Content.TheVariants as content
use Rattle.sf_view.specs.Boxes.{box_of, picture_point}

-- a colour layer shows its colour, a buffer layer its buffer, if it has one, and a container nothing
abbrev pub content_of : Layer → Option Content
content_of layer = by_kind layer.kind
  where
    of_buffer : Option Shown → Option Content
    of_buffer None = None
    of_buffer (Some shown) = Some (content.Buffer shown)

    by_kind : Kind → Option Content
    by_kind kind.Container = None
    by_kind kind.Colour = Some (content.Colour layer.colour)
    by_kind kind.Buffer = of_buffer layer.shown

-- a layer has something to show
abbrev pub has_content : Layer → Bool
has_content layer = is_some (content_of layer)

-- a point lies in a content that is shown with an orientation at a place: a colour is everywhere, a buffer in its box
abbrev pub is_in_content : Content → ℕ → ℤ × ℤ → ℤ → ℤ → Bool
is_in_content (content.Colour _) orient place x y = true
is_in_content (content.Buffer shown) orient place x y = covers (box_of shown.crop orient place) x y

-- the number of a pixel of a picture, which is not below 0
abbrev pub unsigned : ℤ → ℕ
unsigned (pos n) = n
unsigned (negsuc _) = 0

-- the pixel of a content at a point that lies in it: of a buffer that of the picture that was drawn in it
abbrev pub pixel_of : (ℕ → Picture) → Content → ℕ → ℤ × ℤ → ℤ → ℤ → Rgba
pixel_of picture (content.Colour colour) orient place x y = colour
pixel_of picture (content.Buffer shown) orient place x y =
    let point = picture_point shown.crop orient (x +ℤ neg_ℤ place.0) (y +ℤ neg_ℤ place.1) in
    pixel_at (picture shown.picture) (unsigned point.0) (unsigned point.1)

-- an opaque layer's pixels count as opaque
abbrev pub source_of : Bool → Rgba → Rgba
source_of opaque pixel = if opaque then record pixel { a = 255 } else pixel
