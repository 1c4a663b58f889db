-- Layers that are painted only where they show.
use Rattle.std.proofs.Common.{◌≡◌, ℕ, zero, suc, ◌+◌, ◌-◌, ◌*◌, ◌<◌, ◌≤◌, ◌&&◌, ◌||◌, Bool, true, false, if◌then◌else◌, List, [], ◌∷◌, length, get_or, take, drop, refl, ap, ◌∙◌, sym, arith, add-one, ℤ, pos, inl, inr}
use Rattle.std.specs.List.{AllZip, list_any}
use Rattle.std.proofs.Math.Seq.{drop-cons, drop-length}
use Rattle.std.proofs.lemmas.Bool.{and_parts, both_ways, eqb-true, false_from_ne_true, false≢true, or_cases, or_left, or_right}
use Rattle.std.proofs.lemmas.List.Folds.{list_any_more}
use Rattle.sf_base.specs.Bytes.{pixel_in}
use Rattle.sf_base.specs.Geometry.{covers}
use Rattle.sf_base.specs.declared.geometry.Rect.{Rect}
use Rattle.sf_base.specs.declared.pixel.Rgba.{Rgba}
use Rattle.sf_damage.proofs.VisibleLemmas.{painted-solid}
use Rattle.sf_damage.specs.Visible.{hides_all, hides_at, shows_at}
use Rattle.sf_damage.specs.sf_picture.declared.picture.Picture.{Picture}
use Rattle.sf_damage.specs.sf_region.Canonical.{IsDisjoint}
use Rattle.sf_damage.specs.sf_region.Points.{has}
use Rattle.sf_damage.specs.sf_view.Image.{opaque_black}
use Rattle.sf_damage.specs.sf_view.Views.{is_in_clip}
use Rattle.sf_damage.specs.sf_view.declared.content.Content.TheVariants as content
use Rattle.sf_damage.specs.sf_view.declared.drawn.Drawn.{Drawn}
use Rattle.sf_compose.specs.declared.area.Area.{Area}
use Rattle.sf_compose.specs.inner.Painting.{is_in_area, Paints}
use Rattle.sf_compose.specs.inner.Begun.{IsBegun, Spares}
use Rattle.sf_compose.specs.Readings.{AreReadable, IsReadable, pixel_from, under_drawn, under_one}
use Rattle.sf_compose.specs.inner.Seen.{AreSeenAt}
use Rattle.sf_compose.proofs.BegunLemmas.{AllZip-drop}
use Rattle.sf_compose.proofs.PaintLemmas.{Paints-then}

-- rectangles that share no point

pub has_at : (rs : List Rect) (i : ℕ) (d : Rect) (x y : ℤ) → i < length rs → covers (get_or rs i d) x y ≡ true → has rs x y ≡ true
has_at [] i d x y h t = absurd (omega arith)
has_at (r ∷ rs) zero d x y h t = or_left (covers r x y) (has rs x y) t
has_at (r ∷ rs) (suc i) d x y h t = or_right (covers r x y) (has rs x y) (has_at rs i d x y (omega arith) t)

apart_at : (rs : List Rect) (i : ℕ) (d : Rect) (x y : ℤ) → IsDisjoint rs → i < length rs → has (take i rs) x y ≡ true → covers (get_or rs i d) x y ≡ true → ⊥
apart_at [] i d x y apart h t u = absurd (omega arith)
apart_at (r ∷ rs) zero d x y apart h t u = absurd (false≢true t)
apart_at (r ∷ rs) (suc i) d x y apart h t u = elim (or_cases (covers r x y) (has (take i rs) x y) t) [
  | inl here ↦ both_ways (has rs x y) (apart.0 x y here) (has_at rs i d x y (omega arith) u)
  | inr later ↦ apart_at rs i d x y apart.1 (omega arith) later u
]

both_or : (a h c : Bool) → (a && (h || c)) ≡ ((a && h) || (a && c))
both_or true h c = refl
both_or false h c = refl

-- one rectangle more
pub Paints-piece : (w base : ℕ) (test piece : ℕ → ℕ → Bool) (parts : List Rect) (i : ℕ) (d : Rect) (f : ℕ → ℕ → Rgba → Rgba) (old mid new : List ℕ) → IsDisjoint parts → i < length parts → Paints w base (λ x y. test x y && has (take i parts) (pos x) (pos y)) f old mid → Paints w base piece f mid new
    → ((x y : ℕ) → piece x y ≡ (test x y && covers (get_or parts i d) (pos x) (pos y))) → Paints w base (λ x y. test x y && has (take (i + 1) parts) (pos x) (pos y)) f old new
Paints-piece w base test piece parts i d f old mid new apart h a b points =
    Paints-then w base (λ x y. test x y && has (take i parts) (pos x) (pos y)) piece (λ x y. test x y && has (take (i + 1) parts) (pos x) (pos y)) f old mid new a b
    (λ x y. ap (λ (t : Bool). test x y && t) (list_any_more (λ rect. covers rect (pos x) (pos y)) parts i d h)
    ∙ (both_or (test x y) (has (take i parts) (pos x) (pos y)) (covers (get_or parts i d) (pos x) (pos y))
    ∙ ap (λ (t : Bool). (test x y && has (take i parts) (pos x) (pos y)) || t) (sym (points x y))))
    (λ x y t. false_from_ne_true (piece x y) (λ u.
    apart_at parts i d (pos x) (pos y) apart h (and_parts (test x y) _ t).1 (and_parts (test x y) _ (sym (points x y) ∙ u)).1))

pub Paints-part : (w base : ℕ) (area part : Area) (parts : List Rect) (i : ℕ) (d : Rect) (f : ℕ → ℕ → Rgba → Rgba) (old mid new : List ℕ) → IsDisjoint parts → i < length parts → Paints w base (λ x y. is_in_area area x y && has (take i parts) (pos x) (pos y)) f old mid → Paints w base (is_in_area part) f mid new → ((x y : ℕ) → is_in_area part x y ≡ (is_in_area area x y && covers (get_or parts i d) (pos x) (pos y))) → Paints w base (λ x y. is_in_area area x y && has (take (i + 1) parts) (pos x) (pos y)) f old new
Paints-part w base area part parts i d f old mid new apart h a b points = Paints-piece w base (is_in_area area) (is_in_area part) parts i d f old mid new apart h a b points

pub right_false : (a : Bool) → (a && false) ≡ false
right_false true = refl
right_false false = refl

-- what is hidden

-- what lies below an opaque layer of whole alpha is not seen
one-hides : (contents : List Picture) (d : Drawn) (source : ℕ) (x y : ℤ) (under other : Rgba) → hides_at x y d ≡ true → under_one contents x y under d source ≡ under_one contents x y other d source
one-hides contents d source x y under other h =
    let parts = and_parts (hides_all d) (is_in_clip d x y) h in
    let whole = and_parts d.opaque _ parts.0 in
    let alpha : d.alpha ≡ 255 = eqb-true d.alpha 255 whole.1 in
    let solid : (pixel_from contents d source x y).a ≡ 255 = rw whole.0 refl in
    rw (parts.1, alpha) (painted-solid under other (pixel_from contents d source x y) solid)

layers-hide : (contents : List Picture) (x y : ℤ) (layers : List Drawn) (sources : List ℕ) → AllZip (λ drawn source. IsReadable contents drawn.content source) layers sources → list_any (hides_at x y) layers ≡ true → (under other : Rgba) → under_drawn contents x y under layers sources ≡ under_drawn contents x y other layers sources
layers-hide contents x y [] sources all h under other = absurd (false≢true h)
layers-hide contents x y (d ∷ ds) [] all h under other = absurd all
layers-hide contents x y (d ∷ ds) (s ∷ ss) all h under other = elim (or_cases (hides_at x y d) (list_any (hides_at x y) ds) h) [
  | inl here ↦ ap (λ (ground : Rgba). under_drawn contents x y ground ds ss) (one-hides contents d s x y under other here)
  | inr later ↦ layers-hide contents x y ds ss all.1 later (under_one contents x y under d s) (under_one contents x y other d s)
]

-- a layer that is painted where it shows alone counts as one that is painted whole
seen-step : (contents : List Picture) (d : Drawn) (ds : List Drawn) (s : ℕ) (ss : List ℕ) (x y : ℤ) (shown : Bool) (under : Rgba) → AllZip (λ drawn source. IsReadable contents drawn.content source) ds ss → shown ≡ shows_at d ds x y → under_drawn contents x y (if shown then under_one contents x y under d s else under) ds ss ≡ under_drawn contents x y (under_one contents x y under d s) ds ss
seen-step contents d ds s ss x y shown under all is = rw is (by_tests (is_in_clip d x y) (list_any (hides_at x y) ds) refl refl)
  where
    by_tests : (c h : Bool) → is_in_clip d x y ≡ c → list_any (hides_at x y) ds ≡ h → under_drawn contents x y (if shows_at d ds x y then under_one contents x y under d s else under) ds ss ≡ under_drawn contents x y (under_one contents x y under d s) ds ss
    by_tests true false t u = rw (t, u) refl
    by_tests true true t u = rw (t, u) (layers-hide contents x y ds ss all u under _)
    by_tests false h t u = rw t refl

-- what shows of a layer with those above it
seen_at : (test : ℕ → ℕ → Bool) (layers : List Drawn) (shows : List (List Rect)) (n : ℕ) (d : Drawn) (r : List Rect) (x y : ℕ) → n < length layers → AreSeenAt test layers shows → test x y ≡ true
    → has (get_or shows n r) (pos x) (pos y) ≡ shows_at (get_or layers n d) (drop (suc n) layers) (pos x) (pos y)
seen_at test [] shows n d r x y h visible t = absurd (omega arith)
seen_at test (l ∷ ls) [] n d r x y h visible t = absurd visible
seen_at test (l ∷ ls) (region ∷ regions) zero d r x y h visible t = visible.0 x y t
seen_at test (l ∷ ls) (region ∷ regions) (suc n) d r x y h visible t = seen_at test ls regions n d r x y (omega arith) visible.1 t

-- one layer more, painted where it shows
pub IsBegun-seen : (w base : ℕ) (test : ℕ → ℕ → Bool) (contents : List Picture) (layers : List Drawn) (sources : List ℕ) (shows : List (List Rect)) (n : ℕ) (d : Drawn) (s : ℕ) (r : List Rect) (old new : List ℕ) → n < length layers → n < length sources → AreReadable contents layers sources → AreSeenAt test layers shows
    → Paints w base (λ x y. test x y && has (get_or shows n r) (pos x) (pos y)) (λ x y under. under_one contents (pos x) (pos y) under (get_or layers n d) (get_or sources n s)) old new
    → IsBegun w base test contents layers sources n old → IsBegun w base test contents layers sources (n + 1) new
IsBegun-seen w base test contents layers sources shows n d s r old new h k readable visible painted begun = rw (add-one n) (record {
  image = λ x y wide low t.
      (let drawn = get_or layers n d in
      let source = get_or sources n s in
      let above = drop (suc n) layers in
      let later = drop (suc n) sources in
      let under = pixel_in old ((y - base) * w + x) in
      let here : pixel_in new ((y - base) * w + x) ≡ (if has (get_or shows n r) (pos x) (pos y) then under_one contents (pos x) (pos y) under drawn source else under) = rw t at (painted.pixels x y wide low) in
      ap (λ (p : Rgba). under_drawn contents (pos x) (pos y) p above later) here
      ∙ (seen-step contents drawn above source later (pos x) (pos y) (has (get_or shows n r) (pos x) (pos y)) under (AllZip-drop (λ drawn source. IsReadable contents drawn.content source) (suc n) layers sources readable.all) (seen_at test layers shows n d r x y h visible t)
      ∙ (ap (λ (ls : List Drawn). under_drawn contents (pos x) (pos y) under ls (source ∷ later)) (sym (drop-cons layers n d h)) ∙ (ap (λ (ss : List ℕ). under_drawn contents (pos x) (pos y) under (drop n layers) ss) (sym (drop-cons sources n s k)) ∙ begun.image x y wide low t))));
})

-- beside an area is none of its part
pub part_beside : (area : Area) (region : List Rect) (x y : ℕ) → is_in_area area x y ≡ false → (is_in_area area x y && has region (pos x) (pos y)) ≡ false
part_beside area region x y t = rw t refl

-- one layer more, painted over the whole area
pub IsBegun-whole : (w base : ℕ) (area : Area) (contents : List Picture) (layers : List Drawn) (sources : List ℕ) (n : ℕ) (d : Drawn) (s : ℕ) (old new : List ℕ) → n < length layers → n < length sources
    → Paints w base (is_in_area area) (λ x y under. under_one contents (pos x) (pos y) under (get_or layers n d) (get_or sources n s)) old new
    → IsBegun w base (is_in_area area) contents layers sources n old → IsBegun w base (is_in_area area) contents layers sources (n + 1) new
IsBegun-whole w base area contents layers sources n d s old new h k painted begun = rw (add-one n) (record {
  image = λ x y wide low t.
      (let drawn = get_or layers n d in
      let source = get_or sources n s in
      let above = drop (suc n) layers in
      let later = drop (suc n) sources in
      let under = pixel_in old ((y - base) * w + x) in
      let here : pixel_in new ((y - base) * w + x) ≡ under_one contents (pos x) (pos y) under drawn source = rw t at (painted.pixels x y wide low) in
      ap (λ (p : Rgba). under_drawn contents (pos x) (pos y) p above later) here
      ∙ (ap (λ (ls : List Drawn). under_drawn contents (pos x) (pos y) under ls (source ∷ later)) (sym (drop-cons layers n d h)) ∙ (ap (λ (ss : List ℕ). under_drawn contents (pos x) (pos y) under (drop n layers) ss) (sym (drop-cons sources n s k)) ∙ begun.image x y wide low t)));
})

-- and none
pub IsBegun-ended : (w base : ℕ) (p : ℕ → ℕ → Bool) (contents : List Picture) (layers : List Drawn) (sources : List ℕ) (n : ℕ) (old new : List ℕ) → n ≡ length layers → Spares w base p old new → IsBegun w base p contents layers sources n new
    → Paints w base p (λ x y under. under_drawn contents (pos x) (pos y) opaque_black layers sources) old new
IsBegun-ended w base p contents layers sources n old new all spared begun = record {
  size = spared.size;
  pixels = λ x y wide low. by_test x y wide low (p x y) refl;
}
  where
    none : drop n layers ≡ []
    none = rw all (drop-length layers)

    by_test : (x y : ℕ) → x < w → base ≤ y → (t : Bool) → p x y ≡ t → pixel_in new ((y - base) * w + x) ≡ (if p x y then under_drawn contents (pos x) (pos y) opaque_black layers sources else pixel_in old ((y - base) * w + x))
    by_test x y wide low true t = rw t (ap (λ (ls : List Drawn). under_drawn contents (pos x) (pos y) (pixel_in new ((y - base) * w + x)) ls (drop n sources)) (sym none) ∙ begun.image x y wide low t)
    by_test x y wide low false t = rw t (spared.rest x y wide low t)

-- what stands for a drawn layer of an empty list
abbrev pub no_layer : Drawn
no_layer = record {
  layer = record { 0 = 0 };
  clip = record { x = pos 0; y = pos 0; width = 0; height = 0 };
  place = (pos 0, pos 0);
  alpha = 0;
  opaque = false;
  content = content.Colour (record { r = 0; g = 0; b = 0; a = 0 });
  orient = 0;
}
