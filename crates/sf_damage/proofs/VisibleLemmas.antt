-- What shows of a layer, and that what is hidden is nothing.
use Rattle.std.proofs.Common.{◌≡◌, ℕ, ℤ, ◌+◌, ◌-◌, ◌*◌, ◌/◌, pos, ◌≤ℤ◌, ◌+ℤ◌, ◌&&◌, Bool, true, false, List, [], ◌∷◌, map, filter, refl, ◌∙◌, ap, arith, inl, inr}
use Rattle.std.specs.List.{All, list_any}
use Rattle.std.proofs.lemmas.Bool.{and_from, and_parts, both_ways, eqb-true, false≢true, or_cases}
use Rattle.std.proofs.lemmas.Bool.Decides.{nat_tests}
use Rattle.std.proofs.lemmas.Int.{ints}
use Rattle.std.proofs.lemmas.List.Elements.{All-head, All-tail}
use Rattle.sf_base.specs.Blend.{blended, product}
use Rattle.sf_base.specs.Geometry.{covers, is_within}
use Rattle.sf_base.specs.Paint.{painted}
use Rattle.sf_base.specs.declared.geometry.Rect.{Rect}
use Rattle.sf_base.specs.declared.pixel.Rgba.{Rgba}
use Rattle.sf_view.specs.sf_picture.declared.picture.Picture.{Picture}
use Rattle.sf_view.specs.Contents.{pixel_of, source_of}
use Rattle.sf_view.specs.Image.{opaque_black}
use Rattle.sf_view.specs.Stacks.{sheet_of, stack, under_stack, view_image}
use Rattle.sf_view.specs.Views.{IsClip, ViewOf, is_in_clip}
use Rattle.sf_region.specs.Points.{has}
use Rattle.sf_view.specs.declared.drawn.Drawn.{Drawn}
use Rattle.sf_damage.specs.Visible.{AreVisibleAt, AreWithin, ShowsEverywhere, hides_all, hides_at, over_one, seen_over, shows_at}

cover-whole : (a : ℕ) → a ≡ 255 → 255 - (a * 255 + 127) / 255 ≡ 0
cover-whole a e = rw e refl

pub nothing-left : (x : ℕ) → (x * 0 + 127) / 255 ≡ 0
nothing-left x = let none : x * 0 ≡ 0 = omega arith in rw none refl

-- a pixel of whole alpha leaves nothing of what it is painted over
pub painted-solid : (under other source : Rgba) → source.a ≡ 255 → painted under source 255 ≡ painted other source 255
unfolding painted blended product
painted-solid under other source solid =
    rw (cover-whole source.a solid, nothing-left under.r, nothing-left under.g, nothing-left under.b, nothing-left under.a, nothing-left other.r, nothing-left other.g, nothing-left other.b, nothing-left other.a) refl

-- a layer that hides what is below it is painted the same over anything
over_one-hides : (picture : ℕ → Picture) (x y : ℤ) (under other : Rgba) (d : Drawn) → hides_all d ≡ true → over_one picture x y under d ≡ over_one picture x y other d
over_one-hides picture x y under other d t =
    let parts = and_parts d.opaque _ t in
    let alpha : d.alpha ≡ 255 = eqb-true d.alpha 255 parts.1 in
    rw (parts.0, alpha) (painted-solid under other (source_of true (pixel_of picture d.content d.orient d.place x y)) refl)

-- a pixel under the layers of a list whose clip has the point
abbrev under_clips : (ℕ → Picture) → ℤ → ℤ → Rgba → List Drawn → Rgba
under_clips picture x y under layers = under_stack picture x y under (map sheet_of (filter (λ drawn. is_in_clip drawn x y) layers))

-- below layers of which one hides the point it does not count what was there
clips-hide : (picture : ℕ → Picture) (x y : ℤ) (layers : List Drawn) → list_any (hides_at x y) layers ≡ true → (under other : Rgba) → under_clips picture x y under layers ≡ under_clips picture x y other layers
clips-hide picture x y [] h under other = absurd (false≢true h)
clips-hide picture x y (d ∷ ds) h under other = by_tests (is_in_clip d x y) (hides_all d) refl refl (clips-hide picture x y ds)
  where
    rest_hides : ((hides_all d ≡ true) × (is_in_clip d x y ≡ true) → ⊥) → list_any (hides_at x y) ds ≡ true
    rest_hides not_here = elim (or_cases (hides_at x y d) (list_any (hides_at x y) ds) h) [
      | inl here ↦ absurd (not_here (and_parts (hides_all d) (is_in_clip d x y) here))
      | inr later ↦ later
    ]

    by_tests : (c a : Bool) → is_in_clip d x y ≡ c → hides_all d ≡ a → (list_any (hides_at x y) ds ≡ true → (u v : Rgba) → under_clips picture x y u ds ≡ under_clips picture x y v ds) → under_clips picture x y under (d ∷ ds) ≡ under_clips picture x y other (d ∷ ds)
    by_tests true true t s rest = rw t (ap (λ (u : Rgba). under_clips picture x y u ds) (over_one-hides picture x y under other d s))
    by_tests true false t s rest = rw t (rest (rest_hides (λ q. both_ways (hides_all d) s q.0)) (over_one picture x y under d) (over_one picture x y other d))
    by_tests false a t s rest = rw t (rest (rest_hides (λ q. both_ways (is_in_clip d x y) t q.1)) under other)

pub seen-same : (picture : ℕ → Picture) (x y : ℤ) (layers : List Drawn) (under : Rgba) → seen_over picture x y under layers ≡ under_clips picture x y under layers
seen-same picture x y [] under = refl
seen-same picture x y (d ∷ ds) under = by_tests (is_in_clip d x y) (list_any (hides_at x y) ds) refl refl (seen-same picture x y ds)
  where
    by_tests : (c h : Bool) → is_in_clip d x y ≡ c → list_any (hides_at x y) ds ≡ h → ((u : Rgba) → seen_over picture x y u ds ≡ under_clips picture x y u ds) → seen_over picture x y under (d ∷ ds) ≡ under_clips picture x y under (d ∷ ds)
    by_tests true false t s rest = rw (t, s) (rest (over_one picture x y under d))
    by_tests true true t s rest = rw (t, s) (rest under ∙ clips-hide picture x y ds s under (over_one picture x y under d))
    by_tests false h t s rest = rw t (rest under)

-- what is hidden is nothing
pub hidden_is_nothing : (picture : ℕ → Picture) (view : ViewOf) (x y : ℤ) → seen_over picture x y opaque_black view.drawn ≡ view_image picture view x y
unfolding stack view_image
hidden_is_nothing picture view x y = seen-same picture x y view.drawn opaque_black

-- regions that have what shows at some points have it at fewer
pub AreVisibleAt-within : (some fewer : ℤ → ℤ → Bool) (layers : List Drawn) (regions : List (List Rect)) → ((x y : ℤ) → fewer x y ≡ true → some x y ≡ true) → AreVisibleAt some layers regions → AreVisibleAt fewer layers regions
AreVisibleAt-within some fewer [] regions within visible = visible
AreVisibleAt-within some fewer (d ∷ ds) [] within visible = visible
AreVisibleAt-within some fewer (d ∷ ds) (r ∷ rs) within visible = (λ x y t. visible.0 x y (within x y t), AreVisibleAt-within some fewer ds rs within visible.1)

-- so many coordinates that lie on a display are those of the display
within_size : (start : ℤ) (extent size : ℕ) (at : ℤ) → pos 0 ≤ℤ start → (start +ℤ pos extent) ≤ℤ pos size → is_within start extent at ≡ true → is_within (pos 0) size at ≡ true
within_size start extent size at low high h = grind (arith, ints, nat_tests)

-- a clip lies on the display
clip_inside : (width height : ℕ) (d : Drawn) (x y : ℤ) → IsClip width height d → is_in_clip d x y ≡ true → (is_within (pos 0) width x && is_within (pos 0) height y) ≡ true
unfolding covers
clip_inside width height d x y c h =
    let both = and_parts (is_within d.clip.x d.clip.width x) _ h in
    and_from (is_within (pos 0) width x) _ (within_size d.clip.x d.clip.width width x c.left c.right both.0) (within_size d.clip.y d.clip.height height y c.top c.bottom both.1)

-- what shows of a layer is known beside its clip, too
shows_all : (part region : List Rect) (d : Drawn) (ds : List Drawn) (x y : ℤ) → (is_in_clip d x y ≡ true → has part x y ≡ true) → (has part x y ≡ true → has region x y ≡ shows_at d ds x y)
    → (has region x y ≡ true → is_in_clip d x y ≡ true) → has region x y ≡ shows_at d ds x y
shows_all part region d ds x y lies visible inside = by_tests (is_in_clip d x y) (has region x y) refl refl
  where
    by_tests : (c h : Bool) → is_in_clip d x y ≡ c → has region x y ≡ h → has region x y ≡ shows_at d ds x y
    by_tests true h t e = visible (lies t)
    by_tests false true t e = absurd (both_ways (is_in_clip d x y) t (inside e))
    by_tests false false t e = rw (t, e) refl

shows_each : (width height : ℕ) (part : List Rect) (layers : List Drawn) (regions : List (List Rect)) → ((x y : ℤ) → (is_within (pos 0) width x && is_within (pos 0) height y) ≡ true → has part x y ≡ true) → All (IsClip width height) layers
    → AreVisibleAt (has part) layers regions → AreWithin layers regions → AreVisibleAt (λ x y. true) layers regions
shows_each width height part [] regions whole clips visible within = visible
shows_each width height part (d ∷ ds) [] whole clips visible within = visible
shows_each width height part (d ∷ ds) (r ∷ rs) whole clips visible within = (
  (λ x y t. shows_all part r d ds x y (λ c. whole x y (clip_inside width height d x y (All-head (IsClip width height) d ds clips) c)) (visible.0 x y) (within.0 x y)),
  shows_each width height part ds rs whole (All-tail (IsClip width height) d ds clips) visible.1 within.1,
)

-- on the whole display a region has exactly the points that show of its layer
pub shows_everywhere : ShowsEverywhere
shows_everywhere view part regions is whole visible within = shows_each view.width view.height part view.drawn regions whole is.clips visible within
