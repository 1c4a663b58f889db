-- Views show the images of the layers that they are of.
use Rattle.std.specs.Prelude.{◌≡◌, ◌<◌, ℕ, ℤ, List, pos}
use Rattle.sf_base.specs.declared.ids.LayerId.{LayerId}
use Rattle.sf_base.specs.declared.pixel.Rgba.{Rgba}
use Rattle.sf_picture.specs.declared.picture.Picture.{Picture}
use Rattle.sf_tree.specs.sf_layer.declared.layer.Layer.{Layer}
use Rattle.sf_view.specs.Image.{image, image_in}
use Rattle.sf_view.specs.Stacks.{view_image}
use Rattle.sf_view.specs.Views.{ViewOf, Views, ViewsInOrder}

-- at each point of a display of this size the stack of a view shows an image
abbrev pub ShowsImage : (ℕ → Picture) → ViewOf → ℕ → ℕ → (ℤ → ℤ → Rgba) → Type 0
ShowsImage picture view width height at = (x y : ℕ) → x < width → y < height → view_image picture view (pos x) (pos y) ≡ at (pos x) (pos y)

-- a view of the layers of an order shows their image
abbrev pub ViewsShowTheirOrder : Type 0
ViewsShowTheirOrder = (picture : ℕ → Picture) (tree : List Layer) (order : List LayerId) (width height : ℕ) (view : ViewOf) →
    ViewsInOrder tree order width height view → ShowsImage picture view width height (image_in picture tree order)

-- the view of a tree shows the tree's image
abbrev pub ViewsShowTheirTree : Type 0
ViewsShowTheirTree = (picture : ℕ → Picture) (tree : List Layer) (width height : ℕ) (view : ViewOf) →
    Views tree width height view → ShowsImage picture view width height (image picture tree)
