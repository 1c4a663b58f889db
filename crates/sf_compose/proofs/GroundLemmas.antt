-- Where a drawn layer hides the ground, the image does not depend on it.
use Rattle.std.proofs.Common.{◌≡◌, ℕ, ◌<◌, ◌≤◌, Bool, true, false, ◌&&◌, ◌||◌, List, refl, arith, ℤ, pos, ◌+ℤ◌, int_le, int_lt, nat_eq}
use Rattle.std.specs.Prelude.{not}
use Rattle.std.proofs.lemmas.Bool.{and_parts, eqb-true, false≢true}
use Rattle.std.proofs.lemmas.Bool.Decides.{nat_tests}
use Rattle.std.proofs.lemmas.Int.{ints}
use Rattle.sf_base.specs.Geometry.{covers}
use Rattle.sf_base.specs.declared.geometry.Rect.{Rect}
use Rattle.sf_base.specs.declared.pixel.Rgba.{Rgba}
use Rattle.sf_damage.proofs.VisibleLemmas.{painted-solid}
use Rattle.sf_damage.specs.sf_picture.declared.picture.Picture.{Picture}
use Rattle.sf_damage.specs.sf_view.declared.content.Content.{Content}
use Rattle.sf_damage.specs.sf_view.declared.content.Content.TheVariants as content
use Rattle.sf_damage.specs.sf_view.declared.drawn.Drawn.{Drawn}
use Rattle.sf_compose.specs.declared.area.Area.{Area}
use Rattle.sf_compose.specs.inner.Ground.{has_area, hides, is_solid, is_solid_colour, may_hide, spans}
use Rattle.sf_compose.specs.inner.Painting.{is_in_area}
use Rattle.sf_compose.specs.Readings.{pixel_from, under_one}

-- the pixels of a solid layer have whole alphas
solid_pixel : (contents : List Picture) (drawn : Drawn) (source : ℕ) (x y : ℤ) → (drawn.opaque || is_solid_colour drawn.content) ≡ true → (pixel_from contents drawn source x y).a ≡ 255
solid_pixel contents drawn source x y h = by_case drawn.opaque drawn.content refl refl
  where
    by_case : (o : Bool) (c : Content) → drawn.opaque ≡ o → drawn.content ≡ c → (pixel_from contents drawn source x y).a ≡ 255
    by_case true c o is = rw o refl
    by_case false (content.Colour colour) o is = rw (o, is) (eqb-true colour.a 255 (rw (o, is) at h))
    by_case false (content.Buffer shown) o is = absurd (false≢true (rw (o, is) at h))

-- a point between two sides is in a span that has both
in_span : (start : ℤ) (extent first end at : ℕ) → spans start extent first end ≡ true → first ≤ at → at < end → (int_le start (pos at) && int_lt (pos at) (start +ℤ pos extent)) ≡ true
in_span start extent first end at h low high = grind (arith, ints, nat_tests)

in_sides : (left right top bottom x y : ℕ) (area : Area) → is_in_area area x y ≡ true → (area.left ≤ x) × (x < area.right) × (area.top ≤ y) × (y < area.bottom)
in_sides left right top bottom x y area t = (grind (arith, nat_tests), grind (arith, nat_tests), grind (arith, nat_tests), grind (arith, nat_tests))

-- a rectangle that has an area has its points
pub covers_point : (area : Area) (rect : Rect) (x y : ℕ) → has_area area rect ≡ true → is_in_area area x y ≡ true → covers rect (pos x) (pos y) ≡ true
unfolding covers
covers_point area rect x y h t =
    let sides = and_parts (spans rect.x rect.width area.left area.right) _ h in
    let at = in_sides 0 0 0 0 x y area t in
    rw (in_span rect.x rect.width area.left area.right x sides.0 at.0 at.1, in_span rect.y rect.height area.top area.bottom y sides.1 at.2 at.3) refl

-- what lies below such a layer is not seen
pub hidden : (contents : List Picture) (area : Area) (drawn : Drawn) (source x y : ℕ) (under other : Rgba) → hides area drawn ≡ true → is_in_area area x y ≡ true → under_one contents (pos x) (pos y) under drawn source ≡ under_one contents (pos x) (pos y) other drawn source
hidden contents area drawn source x y under other h t =
    let solid = and_parts (nat_eq drawn.alpha 255) _ (and_parts (is_solid drawn) _ h).0 in
    let alpha : drawn.alpha ≡ 255 = eqb-true drawn.alpha 255 solid.0 in
    rw (covers_point area drawn.clip x y (and_parts (is_solid drawn) _ h).1 t, alpha) (painted-solid under other (pixel_from contents drawn source (pos x) (pos y)) (solid_pixel contents drawn source (pos x) (pos y) solid.1))

not_true : (b : Bool) → not b ≡ true → b ≡ false
not_true true h = cc
not_true false h = refl

pub may_hide-parts : (area : Area) (drawn : Drawn) → may_hide area drawn ≡ true → (drawn.alpha ≡ 255) × (drawn.opaque ≡ false) × (has_area area drawn.clip ≡ true)
may_hide-parts area drawn h =
    let parts = and_parts (nat_eq drawn.alpha 255 && not drawn.opaque) _ h in
    let whole = and_parts (nat_eq drawn.alpha 255) _ parts.0 in
    (eqb-true drawn.alpha 255 whole.0, not_true drawn.opaque whole.1, parts.1)
