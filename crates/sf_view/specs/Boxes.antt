-- How a buffer's crop is turned where a layer shows it.
use Rattle.std.specs.Prelude.{ℕ, ◌%◌, ◌==◌, Bool, if◌then◌else◌, ℤ, pos, neg_ℤ, ◌+ℤ◌}
use Rattle.sf_base.specs.declared.geometry.Rect.{Rect}

-- an odd number of quarter turns
abbrev pub is_sideways : ℕ → Bool
is_sideways orient = orient % 2 == 1

-- the box in which a crop is shown, with its upper left corner at the layer's place: it is as wide and high as the
-- crop, or as high and wide where the crop is turned sideways
abbrev pub box_of : Rect → ℕ → ℤ × ℤ → Rect
box_of crop orient place = record {
  x = place.0;
  y = place.1;
  width = if is_sideways orient then crop.height else crop.width;
  height = if is_sideways orient then crop.width else crop.height;
}

-- so many pixels after the first of a row or a column, and so many before its last
abbrev pub after_first : ℤ → ℤ → ℤ
after_first start far = far +ℤ start

-- the coordinate that lies as far before the last one of a span as this lies behind the first
abbrev pub before_last : ℤ → ℕ → ℤ → ℤ
before_last start extent far = (start +ℤ pos extent) +ℤ neg_ℤ (far +ℤ pos 1)

-- the point of a picture whose pixel is shown in column u and row v of the box, by the orientation of the crop: so
-- many quarter turns clockwise, modulo 4, after it was mirrored from left to right where the orientation is 4 or more
abbrev pub picture_point : Rect → ℕ → ℤ → ℤ → ℤ × ℤ
picture_point crop orient u v =
    if orient == 0 then (right u, down v) else
    if orient == 1 then (right v, up u) else
    if orient == 2 then (left u, up v) else
    if orient == 3 then (left v, down u) else
    if orient == 4 then (left u, down v) else
    if orient == 5 then (left v, up u) else
    if orient == 6 then (right u, up v) else (right v, down u)
  where
    right : ℤ → ℤ
    right far = after_first crop.x far

    left : ℤ → ℤ
    left far = before_last crop.x crop.width far

    down : ℤ → ℤ
    down far = after_first crop.y far

    up : ℤ → ℤ
    up far = before_last crop.y crop.height far
