-- Which layer is in front at a point.
use Rattle.std.specs.Prelude.{ℕ, ◌<◌, if◌then◌else◌, List, find, reverse, Option, None, ℤ}
use Rattle.std.specs.Option.{option_map}
use Rattle.sf_base.specs.declared.ids.LayerId.{LayerId}
use Rattle.sf_view.specs.sf_layer.declared.layer.Layer.{Layer}
use Rattle.sf_view.specs.Image.{drawn_in, is_in_layer}
use Rattle.sf_view.specs.Placements.{is_in_display}
use Rattle.sf_view.specs.Views.{ViewOf, ViewsInOrder, is_in_clip}
use Rattle.sf_output_shown.specs.Displays.{order_on}
use Rattle.sf_view.specs.declared.drawn.Drawn.{Drawn}

-- the last drawn layer of a view whose clip has the point
abbrev pub hit_in : ViewOf → ℤ → ℤ → Option LayerId
hit_in view x y = option_map (λ (drawn : Drawn). drawn.layer) (find (λ (drawn : Drawn). is_in_clip drawn x y) (reverse view.drawn))

-- the last layer of an order that the point is in
abbrev pub front : List Layer → List LayerId → ℤ → ℤ → Option LayerId
front tree order x y =
    option_map (λ (layer : Layer). layer.number) (find (λ (layer : Layer). is_in_layer tree layer x y) (reverse (drawn_in tree order)))

-- the last layer of stack 0 that a point of a display of this size is in, none where the point is off the display
abbrev pub hit_of : List Layer → List (ℕ × ℕ) → ℕ → ℕ → ℤ → ℤ → Option LayerId
hit_of tree stacks width height x y = if is_in_display width height x y then front tree (order_on tree stacks 0) x y else None

-- A point of a display, and a view that shows the layers of an order there.
pub record PointInOrder : Type 0 where
  pub tree : List Layer
  pub order : List LayerId
  -- the size of the display
  pub width : ℕ
  pub height : ℕ
  pub view : ViewOf
  pub views : ViewsInOrder tree order width height view
  -- the point is on it
  pub x : ℕ
  pub y : ℕ
  pub inside_x : x < width
  pub inside_y : y < height
