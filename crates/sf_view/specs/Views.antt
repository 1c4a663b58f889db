-- Views of a tree.
use Rattle.std.specs.Prelude.{◌≡◌, ℕ, ◌<◌, ◌≤◌, Bool, true, List, Some, ℤ, pos, ◌≤ℤ◌, ◌+ℤ◌}
use Rattle.std.specs.List.{All, AllZip}
use Rattle.sf_base.specs.declared.ids.LayerId.{LayerId}
use Rattle.sf_tree.specs.DrawOrder.{draw_order}
use Rattle.sf_tree.specs.sf_layer.declared.layer.Layer.{Layer}
use Rattle.sf_view.specs.declared.drawn.Drawn.{Drawn}
use Rattle.sf_base.specs.Geometry.{covers}
use Rattle.sf_view.specs.Contents.{content_of, is_in_content}
use Rattle.sf_view.specs.Image.{drawn_in, is_in_layer, layer_alpha, layer_place}

-- what a view shows: the size of its display, and the drawn layers, from the back
pub record ViewOf : Type 0 where
  pub width : ℕ
  pub height : ℕ
  pub drawn : List Drawn

-- a point is in a drawn layer's clip
abbrev pub is_in_clip : Drawn → ℤ → ℤ → Bool
is_in_clip drawn x y = covers drawn.clip x y

-- a clip lies in the display and in the content
pub record IsClip (width height : ℕ) (drawn : Drawn) : Type 0 where
  pub left : pos 0 ≤ℤ drawn.clip.x
  pub top : pos 0 ≤ℤ drawn.clip.y
  pub right : (drawn.clip.x +ℤ pos drawn.clip.width) ≤ℤ pos width
  pub bottom : (drawn.clip.y +ℤ pos drawn.clip.height) ≤ℤ pos height
  pub content : (x y : ℤ) → is_in_clip drawn x y ≡ true → is_in_content drawn.content drawn.orient drawn.place x y ≡ true

-- a display is 1 to 1,024 pixels wide and high
pub record IsDisplay (width height : ℕ) : Type 0 where
  pub wide : 1 ≤ width
  pub narrow : width ≤ 1024
  pub high : 1 ≤ height
  pub low : height ≤ 1024

-- what every view keeps
pub record IsView (view : ViewOf) : Type 0 where
  pub display : IsDisplay view.width view.height
  pub clips : All (IsClip view.width view.height) view.drawn
  pub orients : All (λ drawn. drawn.orient ≤ 7) view.drawn

-- a layer of a tree as the view draws it; its clip has the points of the display that are in the layer
pub record Draws (tree : List Layer) (width height : ℕ) (layer : Layer) (drawn : Drawn) : Type 0 where
  pub number : drawn.layer ≡ layer.number
  pub place : drawn.place ≡ layer_place tree layer
  pub alpha : drawn.alpha ≡ layer_alpha tree layer
  pub opaque : drawn.opaque ≡ layer.opaque
  pub content : Some drawn.content ≡ content_of layer
  pub orient : drawn.orient ≡ layer.orient
  pub clip : (x y : ℕ) → x < width → y < height → is_in_clip drawn (pos x) (pos y) ≡ is_in_layer tree layer (pos x) (pos y)

-- the view of the layers of an order: each layer that is drawn, once for each time that the order names it
pub record ViewsInOrder (tree : List Layer) (order : List LayerId) (width height : ℕ) (view : ViewOf) : Type 0 where
  pub wide : view.width ≡ width
  pub high : view.height ≡ height
  pub drawn : AllZip (Draws tree width height) (drawn_in tree order) view.drawn

-- the view of a tree is that of its draw order
abbrev pub Views : List Layer → ℕ → ℕ → ViewOf → Type 0
Views tree width height view = ViewsInOrder tree (draw_order tree) width height view
