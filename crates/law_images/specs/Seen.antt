-- What is seen at a point.
use Rattle.std.specs.Prelude.{◌≡◌, ℕ, ◌==◌, not, List, filter, Option, Some, None, ℤ}
use Rattle.sf_base.specs.declared.ids.LayerId.{LayerId}
use Rattle.sf_base.specs.declared.pixel.Rgba.{Rgba}
use Rattle.sf_layer.specs.declared.layer.Layer.{Layer}
use Rattle.sf_picture.specs.declared.picture.Picture.{Picture}
use Rattle.sf_view.specs.Contents.{content_of}
use Rattle.sf_view.specs.Image.{image_in, layer_alpha, opaque_black, paint_content, under_layers}
use Rattle.sf_output_shown.specs.Hits.{front}

-- the layers whose alpha does not come to 0
abbrev pub that_show : List Layer → List Layer → List Layer
that_show tree layers = filter (λ (layer : Layer). not (layer_alpha tree layer == 0)) layers

-- these layers, painted over black
abbrev pub over_black : (ℕ → Picture) → List Layer → ℤ → ℤ → List Layer → Rgba
over_black picture tree x y layers = under_layers picture tree x y opaque_black layers

-- a layer of this number, painted over some pixel
pub record IsPaintedLast (picture : ℕ → Picture) (tree : List Layer) (x y : ℤ) (pixel : Rgba) (number : LayerId) : Type 0 where
  pub layer : Layer
  pub below : Rgba
  pub named : layer.number ≡ number
  pub painted : pixel ≡ paint_content picture tree layer x y below (content_of layer)

-- the layer that a hit test found, if it found one, was painted last
abbrev pub IsSeenIn : (ℕ → Picture) → List Layer → ℤ → ℤ → Rgba → Option LayerId → Type 0
IsSeenIn picture tree x y pixel None = Unit {0}
IsSeenIn picture tree x y pixel (Some number) = IsPaintedLast picture tree x y pixel number

-- in the image of these layers in this order a hit test finds what was painted last
abbrev pub IsHitSeen : (ℕ → Picture) → List Layer → List LayerId → ℤ → ℤ → Type 0
IsHitSeen picture tree order x y = IsSeenIn picture tree x y (image_in picture tree order x y) (front tree order x y)
