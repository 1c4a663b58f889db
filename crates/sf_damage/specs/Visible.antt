-- Which points of its clip a drawn layer shows.
use Rattle.std.specs.Prelude.{◌≡◌, ℕ, ℤ, pos, ◌==◌, Bool, true, not, ◌&&◌, List, [], ◌∷◌, if◌then◌else◌}
use Rattle.std.specs.List.{AllZip, list_any}
use Rattle.sf_base.specs.Geometry.{is_within}
use Rattle.sf_base.specs.Paint.{painted}
use Rattle.sf_base.specs.declared.geometry.Rect.{Rect}
use Rattle.sf_base.specs.declared.pixel.Rgba.{Rgba}
use Rattle.sf_view.specs.sf_picture.declared.picture.Picture.{Picture}
use Rattle.sf_region.specs.Points.{has}
use Rattle.sf_view.specs.Contents.{pixel_of, source_of}
use Rattle.sf_view.specs.Image.{opaque_black}
use Rattle.sf_view.specs.Stacks.{view_image}
use Rattle.sf_view.specs.Views.{IsView, ViewOf, is_in_clip}
use Rattle.sf_view.specs.declared.drawn.Drawn.{Drawn}

-- a layer hides what is below its clip: it is opaque, and its alpha is full
abbrev pub hides_all : Drawn → Bool
hides_all drawn = drawn.opaque && (drawn.alpha == 255)

abbrev pub hides_at : ℤ → ℤ → Drawn → Bool
hides_at x y drawn = hides_all drawn && is_in_clip drawn x y

-- a point shows of a layer: it is in the clip, and no layer above hides it
abbrev pub shows_at : Drawn → List Drawn → ℤ → ℤ → Bool
shows_at drawn above x y = is_in_clip drawn x y && not (list_any (hides_at x y) above)

-- for each drawn layer, from the back, a region that has, of the points that pass a test, those that show of it
abbrev pub AreVisibleAt : (ℤ → ℤ → Bool) → List Drawn → List (List Rect) → Type 0
AreVisibleAt test [] regions = regions ≡ []
AreVisibleAt test (drawn ∷ above) [] = ⊥
AreVisibleAt test (drawn ∷ above) (region ∷ regions) =
    ((x y : ℤ) → test x y ≡ true → has region x y ≡ shows_at drawn above x y) × AreVisibleAt test above regions

-- the same of the points of a part
abbrev pub AreVisibleIn : List Rect → List Drawn → List (List Rect) → Type 0
AreVisibleIn part layers regions = AreVisibleAt (has part) layers regions

-- each region keeps within the clip of its drawn layer
abbrev pub AreWithin : List Drawn → List (List Rect) → Type 0
AreWithin layers regions = AllZip (λ drawn region. (x y : ℤ) → has region x y ≡ true → is_in_clip drawn x y ≡ true) layers regions

-- a pixel under a drawn layer at a point
abbrev pub over_one : (ℕ → Picture) → ℤ → ℤ → Rgba → Drawn → Rgba
over_one picture x y under drawn =
    painted under (source_of drawn.opaque (pixel_of picture drawn.content drawn.orient drawn.place x y)) drawn.alpha

-- a pixel under the layers of a list, from the back, each painted only where it shows
abbrev pub seen_over : (ℕ → Picture) → ℤ → ℤ → Rgba → List Drawn → Rgba
seen_over picture x y under [] = under
seen_over picture x y under (drawn ∷ above) =
    seen_over picture x y (if shows_at drawn above x y then over_one picture x y under drawn else under) above

-- what is hidden is nothing: the image of a view is that of what shows
abbrev pub HiddenIsNothing : Type 0
HiddenIsNothing = (picture : ℕ → Picture) (view : ViewOf) (x y : ℤ) → seen_over picture x y opaque_black view.drawn ≡ view_image picture view x y

-- a part has each point of a view's display
abbrev pub HasDisplay : ViewOf → List Rect → Type 0
HasDisplay view part = (x y : ℤ) → (is_within (pos 0) view.width x && is_within (pos 0) view.height y) ≡ true → has part x y ≡ true

-- on the whole display a region has exactly the points that show of its layer
abbrev pub ShowsEverywhere : Type 0
ShowsEverywhere = (view : ViewOf) (part : List Rect) (regions : List (List Rect)) → IsView view → HasDisplay view part →
    AreVisibleIn part view.drawn regions → AreWithin view.drawn regions → AreVisibleAt (λ x y. true) view.drawn regions
