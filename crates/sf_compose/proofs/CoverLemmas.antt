-- Layers that hide together what lies below an area.
use Rattle.std.proofs.Common.{◌≡◌, ℕ, zero, suc, ◌<◌, ◌≤◌, Bool, true, false, List, [], ◌∷◌, length, get_or, refl, ap, arith, inl, inr, ◌⊎◌, pos}
use Rattle.std.proofs.lemmas.Bool.{cases_lt, false≢true}
use Rattle.std.proofs.lemmas.Bool.Decides.{nat_tests}
use Rattle.sf_base.specs.declared.pixel.Rgba.{Rgba}
use Rattle.sf_damage.proofs.VisibleLemmas.{painted-solid}
use Rattle.sf_damage.specs.sf_layer.declared.shown.Shown.{Shown}
use Rattle.sf_damage.specs.sf_picture.Solid.{IsSolid}
use Rattle.sf_damage.specs.sf_picture.declared.picture.Picture.{Picture}
use Rattle.sf_damage.specs.sf_view.Image.{opaque_black}
use Rattle.sf_damage.specs.sf_view.Views.{is_in_clip}
use Rattle.sf_damage.specs.sf_view.declared.content.Content.TheVariants as content
use Rattle.sf_damage.specs.sf_view.declared.drawn.Drawn.{Drawn}
use Rattle.sf_compose.specs.Frames.{is_in_box}
use Rattle.sf_compose.specs.Readings.{content_at, IsReadable, pixel_from, under_drawn, under_one}
use Rattle.sf_compose.specs.declared.area.Area.{Area}
use Rattle.sf_compose.specs.inner.Begun.{IsBegun}
use Rattle.sf_compose.specs.inner.Cover.{HidesBelow, HidesGround}
use Rattle.sf_compose.specs.inner.Painting.{is_in_area}
use Rattle.sf_compose.specs.inner.Seen.{IsPaintable}
use Rattle.sf_compose.proofs.LayerLemmas.{in_shown_box}
use Rattle.sf_compose.proofs.OrientationLemmas.{pixel_solid}

-- one layer

-- a layer whose pixels have whole alphas
HidesBelow-solid : (contents : List Picture) (drawn : Drawn) (source : ℕ) → drawn.alpha ≡ 255 → ((x y : ℕ) → is_in_clip drawn (pos x) (pos y) ≡ true → (pixel_from contents drawn source (pos x) (pos y)).a ≡ 255) → HidesBelow contents drawn source
HidesBelow-solid contents drawn source alpha solid = record {
  hidden = λ x y inside under other. rw (inside, alpha) (painted-solid under other (pixel_from contents drawn source (pos x) (pos y)) (solid x y inside));
}

pub HidesBelow-opaque : (contents : List Picture) (drawn : Drawn) (source : ℕ) → drawn.alpha ≡ 255 → drawn.opaque ≡ true → HidesBelow contents drawn source
HidesBelow-opaque contents drawn source alpha opaque = HidesBelow-solid contents drawn source alpha (λ x y inside. rw opaque refl)

pub HidesBelow-colour : (contents : List Picture) (drawn : Drawn) (source : ℕ) (colour : Rgba) → drawn.alpha ≡ 255 → drawn.opaque ≡ false → drawn.content ≡ content.Colour colour → colour.a ≡ 255 → HidesBelow contents drawn source
HidesBelow-colour contents drawn source colour alpha clear is whole = HidesBelow-solid contents drawn source alpha (λ x y inside. rw (clear, is) whole)

pub HidesBelow-buffer : (contents : List Picture) (drawn : Drawn) (source : ℕ) (shown : Shown) (picture : Picture) → drawn.alpha ≡ 255 → drawn.opaque ≡ false → drawn.content ≡ content.Buffer shown → picture ≡ content_at contents source → IsSolid picture → IsReadable contents drawn.content source → IsPaintable drawn → HidesBelow contents drawn source
HidesBelow-buffer contents drawn source shown picture alpha clear is same solid readable paintable = HidesBelow-solid contents drawn source alpha (λ x y inside.
    let crop : IsReadable contents (content.Buffer shown) source = rw is at readable in
    let whole : IsSolid (content_at contents source) = rw same at solid in
    rw (clear, is) (pixel_solid (content_at contents source) shown.crop drawn.orient drawn.place (pos x) (pos y) whole paintable.oriented crop.crop
    (in_shown_box drawn shown (pos x) (pos y) is (paintable.inside x y inside))))

-- what lies below one layer of several
below_one : (contents : List Picture) (x y : ℕ) (layers : List Drawn) (sources : List ℕ) (n : ℕ) (d : Drawn) (s : ℕ) → n < length layers → n < length sources → HidesBelow contents (get_or layers n d) (get_or sources n s) → is_in_clip (get_or layers n d) (pos x) (pos y) ≡ true
    → (under other : Rgba) → under_drawn contents (pos x) (pos y) under layers sources ≡ under_drawn contents (pos x) (pos y) other layers sources
below_one contents x y [] sources n d s h k hides inside under other = absurd (omega arith)
below_one contents x y (l ∷ ls) [] n d s h k hides inside under other = absurd (omega arith)
below_one contents x y (l ∷ ls) (e ∷ es) zero d s h k hides inside under other = ap (λ (ground : Rgba). under_drawn contents (pos x) (pos y) ground ls es) (hides.hidden x y inside under other)
below_one contents x y (l ∷ ls) (e ∷ es) (suc n) d s h k hides inside under other =
    below_one contents x y ls es n d s (omega arith) (omega arith) hides inside (under_one contents (pos x) (pos y) under l e) (under_one contents (pos x) (pos y) other l e)

pub HidesGround-one : (test : ℕ → ℕ → Bool) (contents : List Picture) (layers : List Drawn) (sources : List ℕ) (n : ℕ) (d : Drawn) (s : ℕ) → n < length layers → n < length sources → HidesBelow contents (get_or layers n d) (get_or sources n s)
    → ((x y : ℕ) → test x y ≡ true → is_in_clip (get_or layers n d) (pos x) (pos y) ≡ true) → HidesGround test contents layers sources
HidesGround-one test contents layers sources n d s h k hides inside = record {
  hidden = λ x y t under other. below_one contents x y layers sources n d s h k hides (inside x y t) under other;
}

-- several areas

pub HidesGround-none : (test : ℕ → ℕ → Bool) (contents : List Picture) (layers : List Drawn) (sources : List ℕ) → ((x y : ℕ) → test x y ≡ false) → HidesGround test contents layers sources
HidesGround-none test contents layers sources none = record { hidden = λ x y t under other. absurd (false≢true (rw (none x y) at t)) }

-- the points of either of two tests
HidesGround-either : (p q r : ℕ → ℕ → Bool) (contents : List Picture) (layers : List Drawn) (sources : List ℕ) → HidesGround p contents layers sources → HidesGround q contents layers sources → ((x y : ℕ) → r x y ≡ true → (p x y ≡ true) ⊎ (q x y ≡ true)) → HidesGround r contents layers sources
HidesGround-either p q r contents layers sources a b either = record {
  hidden = λ x y t under other. elim (either x y t) [
    | inl here ↦ a.hidden x y here under other
    | inr there ↦ b.hidden x y there under other
  ];
}

pub HidesGround-fewer : (some fewer : ℕ → ℕ → Bool) (contents : List Picture) (layers : List Drawn) (sources : List ℕ) → HidesGround some contents layers sources → ((x y : ℕ) → fewer x y ≡ true → some x y ≡ true) → HidesGround fewer contents layers sources
HidesGround-fewer some fewer contents layers sources a within = record { hidden = λ x y t under other. a.hidden x y (within x y t) under other }

-- the sides and edges between which an area has a point
pub around : (area : Area) (x y : ℕ) → is_in_area area x y ≡ true → (area.left ≤ x) × (x < area.right) × (area.top ≤ y) × (y < area.bottom)
around area x y t = (grind (arith, nat_tests), grind (arith, nat_tests), grind (arith, nat_tests), grind (arith, nat_tests))

-- a box, and the points of an area beside it
box_or_part : (left x y bottom l r t b e p q : ℕ) → l ≤ x → x < r → t ≤ y → y < b → e ≤ bottom → e ≤ b → is_in_box left r y e p q ≡ true → (is_in_box left x y bottom p q ≡ true) ⊎ (is_in_box l r t b p q ≡ true)
box_or_part left x y bottom l r t b e p q h1 h2 h3 h4 h5 h6 inside = elim (cases_lt p x) [
  | inl before ↦ inl (grind (arith, nat_tests))
  | inr from ↦ inr (grind (arith, nat_tests))
]

pub HidesGround-beside : (left x y bottom e : ℕ) (part : Area) (contents : List Picture) (layers : List Drawn) (sources : List ℕ) → e ≤ bottom → e ≤ part.bottom → is_in_area part x y ≡ true → HidesGround (is_in_box left x y bottom) contents layers sources → HidesGround (is_in_area part) contents layers sources
    → HidesGround (is_in_box left part.right y e) contents layers sources
HidesGround-beside left x y bottom e part contents layers sources low less here a b =
    let at = around part x y here in
    HidesGround-either (is_in_box left x y bottom) (is_in_area part) (is_in_box left part.right y e) contents layers sources a b
    (λ p q t. box_or_part left x y bottom part.left part.right part.top part.bottom e p q at.0 at.1 at.2 at.3 low less t)

-- rows, and the rows below them
row_or_below : (left right top y z p q : ℕ) → is_in_box left right top z p q ≡ true → (is_in_box left right top y p q ≡ true) ⊎ (is_in_box left right y z p q ≡ true)
row_or_below left right top y z p q inside = elim (cases_lt q y) [
  | inl before ↦ inl (grind (arith, nat_tests))
  | inr from ↦ inr (grind (arith, nat_tests))
]

pub HidesGround-below : (left right top y z : ℕ) (contents : List Picture) (layers : List Drawn) (sources : List ℕ) → HidesGround (is_in_box left right top y) contents layers sources → HidesGround (is_in_box left right y z) contents layers sources → HidesGround (is_in_box left right top z) contents layers sources
HidesGround-below left right top y z contents layers sources a b =
    HidesGround-either (is_in_box left right top y) (is_in_box left right y z) (is_in_box left right top z) contents layers sources a b (λ p q t. row_or_below left right top y z p q t)

pub in_wider : (left right r top bottom b p q : ℕ) → right ≤ r → bottom ≤ b → is_in_box left right top bottom p q ≡ true → is_in_box left r top b p q ≡ true
in_wider left right r top bottom b p q h k t = grind (arith, nat_tests)

-- an area below which nothing is seen is begun as it is
pub IsBegun-hidden_ground : (w base : ℕ) (test : ℕ → ℕ → Bool) (contents : List Picture) (layers : List Drawn) (sources : List ℕ) (new : List ℕ) → HidesGround test contents layers sources → IsBegun w base test contents layers sources 0 new
IsBegun-hidden_ground w base test contents layers sources new hides = record { image = λ x y wide low t. hides.hidden x y t _ opaque_black }
