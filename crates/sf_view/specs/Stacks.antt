-- The layers that are drawn over a point.
use Rattle.std.specs.Prelude.{ℕ, Bool, List, [], ◌∷◌, filter, map, ℤ}
use Rattle.sf_base.specs.Paint.{painted}
use Rattle.sf_base.specs.declared.ids.LayerId.{LayerId}
use Rattle.sf_base.specs.declared.pixel.Rgba.{Rgba}
use Rattle.sf_picture.specs.declared.picture.Picture.{Picture}
use Rattle.sf_view.specs.declared.content.Content.{Content}
use Rattle.sf_view.specs.declared.drawn.Drawn.{Drawn}
use Rattle.sf_view.specs.Contents.{pixel_of, source_of}
use Rattle.sf_view.specs.Image.{opaque_black}
use Rattle.sf_view.specs.Views.{ViewOf, is_in_clip}

-- a drawn layer but for its clip
pub record Sheet : Type 0 where
  pub layer : LayerId
  pub place : ℤ × ℤ
  pub alpha : ℕ
  pub opaque : Bool
  pub content : Content
  pub orient : ℕ

abbrev pub sheet_of : Drawn → Sheet
sheet_of drawn = record {
  layer = drawn.layer;
  place = drawn.place;
  alpha = drawn.alpha;
  opaque = drawn.opaque;
  content = drawn.content;
  orient = drawn.orient;
}

-- the drawn layers whose clip has the point, from the back
unfoldable pub stack : ViewOf → ℤ → ℤ → List Sheet
stack view x y = map sheet_of (filter (λ drawn. is_in_clip drawn x y) view.drawn)

-- a pixel under the layers of a stack
abbrev pub under_stack : (ℕ → Picture) → ℤ → ℤ → Rgba → List Sheet → Rgba
under_stack picture x y under [] = under
under_stack picture x y under (sheet ∷ sheets) =
    under_stack picture x y (painted under (source_of sheet.opaque (pixel_of picture sheet.content sheet.orient sheet.place x y)) sheet.alpha) sheets

-- the image of a view at a point
unfoldable pub view_image : (ℕ → Picture) → ViewOf → ℤ → ℤ → Rgba
view_image picture view x y = under_stack picture x y opaque_black (stack view x y)
