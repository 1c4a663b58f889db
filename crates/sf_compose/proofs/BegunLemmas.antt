-- Areas that are begun with the topmost layer that hides them, and what the layers from there on make of them.
use Rattle.std.proofs.Common.{◌≡◌, ℕ, zero, suc, ◌+◌, ◌-◌, ◌*◌, ◌<◌, ◌≤◌, Bool, true, false, ◌||◌, if◌then◌else◌, List, [], ◌∷◌, length, get_or, take, drop, refl, ap, ◌∙◌, sym, arith, ℤ, pos, Option, None, Some}
use denote.Ref.{Bor}
use Rattle.std.specs.List.{AllZip}
use Rattle.std.proofs.lemmas.Bool.Decides.{nat_tests}
use Rattle.sf_base.specs.Bytes.{pixel_in}
use Rattle.sf_base.specs.Paint.{painted}
use Rattle.sf_base.specs.declared.geometry.Rect.{Rect}
use Rattle.sf_base.specs.declared.pixel.Rgba.{Rgba}
use Rattle.sf_damage.proofs.VisibleLemmas.{AreVisibleAt-within}
use Rattle.sf_damage.specs.Visible.{AreVisibleAt}
use Rattle.sf_damage.specs.sf_picture.declared.picture.Picture.{Picture}
use Rattle.sf_damage.specs.sf_view.Image.{opaque_black}
use Rattle.sf_damage.specs.sf_view.declared.drawn.Drawn.{Drawn}
use Rattle.sf_compose.specs.declared.area.Area.{Area}
use Rattle.sf_compose.specs.Composed.{AreShownAt}
use Rattle.sf_compose.specs.inner.Begun.{IsBegun, Spares}
use Rattle.sf_compose.specs.Frames.{is_in_box, Repaints}
use Rattle.sf_compose.specs.inner.Ground.{hides}
use Rattle.sf_compose.specs.inner.Painting.{is_in_area, Paints}
use Rattle.sf_compose.specs.Readings.{under_drawn, under_one}
use Rattle.sf_compose.specs.inner.Seen.{AreGivenAt, AreSeenAt}
use Rattle.sf_compose.proofs.GroundLemmas.{hidden}
use Rattle.sf_compose.proofs.LayerLemmas.{under_drawn-more}
use Rattle.sf_compose.proofs.PaintLemmas.{painted-black, Paints-then}

-- what stays as it is

pub Spares-then : (w base : ℕ) (p : ℕ → ℕ → Bool) (old mid new : List ℕ) → Spares w base p old mid → Spares w base p mid new → Spares w base p old new
Spares-then w base p old mid new a b = record { size = b.size ∙ a.size; rest = λ x y wide low t. b.rest x y wide low t ∙ a.rest x y wide low t }

-- what is painted in a part spares what lies beside the whole
pub Spares-painted : (w base : ℕ) (p q : ℕ → ℕ → Bool) (f : ℕ → ℕ → Rgba → Rgba) (old new : List ℕ) → Paints w base p f old new → ((x y : ℕ) → q x y ≡ false → p x y ≡ false) → Spares w base q old new
Spares-painted w base p q f old new a part = record { size = a.size; rest = λ x y wide low t. rw (part x y t) at (a.pixels x y wide low) }

pub beside_rows : (left right top bottom y a b : ℕ) → y ≤ bottom → is_in_box left right top bottom a b ≡ false → is_in_box left right top y a b ≡ false
beside_rows left right top bottom y a b h t = grind (arith, nat_tests)

pub beside_row : (left right top bottom y a b : ℕ) → top ≤ y → y < bottom → is_in_box left right top bottom a b ≡ false → is_in_box left right y (y + 1) a b ≡ false
beside_row left right top bottom y a b low high t = grind (arith, nat_tests)

-- the first layers, and those above them

under_drawn-split : (contents : List Picture) (x y : ℤ) (layers : List Drawn) (sources : List ℕ) (n : ℕ) (under : Rgba) → n ≤ length layers → n ≤ length sources → under_drawn contents x y under layers sources ≡ under_drawn contents x y (under_drawn contents x y under (take n layers) (take n sources)) (drop n layers) (drop n sources)
under_drawn-split contents x y layers sources zero under h k = refl
under_drawn-split contents x y [] sources (suc n) under h k = absurd (omega arith)
under_drawn-split contents x y (l ∷ ls) [] (suc n) under h k = absurd (omega arith)
under_drawn-split contents x y (l ∷ ls) (s ∷ ss) (suc n) under h k = under_drawn-split contents x y ls ss n (under_one contents x y under l s) (omega arith) (omega arith)

-- what lies below a layer that hides it is not seen
hidden_from : (contents : List Picture) (area : Area) (x y : ℕ) (layers : List Drawn) (sources : List ℕ) (n : ℕ) (d : Drawn) (u v : Rgba) → n < length layers → n < length sources → hides area (get_or layers n d) ≡ true → is_in_area area x y ≡ true → under_drawn contents (pos x) (pos y) u (drop n layers) (drop n sources) ≡ under_drawn contents (pos x) (pos y) v (drop n layers) (drop n sources)
hidden_from contents area x y [] sources n d u v h k hide t = absurd (omega arith)
hidden_from contents area x y (l ∷ ls) [] n d u v h k hide t = absurd (omega arith)
hidden_from contents area x y (l ∷ ls) (s ∷ ss) zero d u v h k hide t = ap (λ (ground : Rgba). under_drawn contents (pos x) (pos y) ground ls ss) (hidden contents area l s x y u v hide t)
hidden_from contents area x y (l ∷ ls) (s ∷ ss) (suc n) d u v h k hide t = hidden_from contents area x y ls ss n d u v (omega arith) (omega arith) hide t

-- three ways to begin an area

pub IsBegun-hidden : (w base : ℕ) (area : Area) (contents : List Picture) (layers : List Drawn) (sources : List ℕ) (n : ℕ) (d : Drawn) (new : List ℕ) → n < length layers → n < length sources → hides area (get_or layers n d) ≡ true → IsBegun w base (is_in_area area) contents layers sources n new
IsBegun-hidden w base area contents layers sources n d new h k hide = record {
  image = λ x y wide low t.
      hidden_from contents area x y layers sources n d (pixel_in new ((y - base) * w + x)) (under_drawn contents (pos x) (pos y) opaque_black (take n layers) (take n sources)) h k hide t
      ∙ sym (under_drawn-split contents (pos x) (pos y) layers sources n opaque_black (omega arith) (omega arith));
}

pub IsBegun-copied : (w base : ℕ) (p : ℕ → ℕ → Bool) (contents : List Picture) (layers : List Drawn) (sources : List ℕ) (n m : ℕ) (d : Drawn) (e : ℕ) (old new : List ℕ) → m ≡ n + 1 → n < length layers → n < length sources → ((ground : ℕ → ℕ → Rgba) → Paints w base p (λ x y under. under_one contents (pos x) (pos y) (ground x y) (get_or layers n d) (get_or sources n e)) old new) → IsBegun w base p contents layers sources m new
IsBegun-copied w base p contents layers sources n m d e old new next h k copied = rw next (record {
  image = λ x y wide low t.
      let ground = λ (x y : ℕ). under_drawn contents (pos x) (pos y) opaque_black (take n layers) (take n sources) in
      let here : pixel_in new ((y - base) * w + x) ≡ under_one contents (pos x) (pos y) (under_drawn contents (pos x) (pos y) opaque_black (take n layers) (take n sources)) (get_or layers n d) (get_or sources n e)
      = rw t at ((copied ground).pixels x y wide low) in
      ap (λ (z : Rgba). under_drawn contents (pos x) (pos y) z (drop (n + 1) layers) (drop (n + 1) sources)) (here ∙ sym (under_drawn-more contents (pos x) (pos y) layers sources n d e opaque_black h k))
      ∙ sym (under_drawn-split contents (pos x) (pos y) layers sources (n + 1) opaque_black (omega arith) (omega arith));
})

pub IsBegun-black : (w base : ℕ) (p : ℕ → ℕ → Bool) (contents : List Picture) (layers : List Drawn) (sources : List ℕ) (old new : List ℕ) → Paints w base p (λ x y under. painted under opaque_black 255) old new → IsBegun w base p contents layers sources 0 new
IsBegun-black w base p contents layers sources old new a = record {
  image = λ x y wide low t. ap (λ (z : Rgba). under_drawn contents (pos x) (pos y) z layers sources) ((rw t at (a.pixels x y wide low)) ∙ painted-black _);
}

-- lists from a place on

pub AllZip-drop : {A B : Type 0} (R : A → B → Type 0) (n : ℕ) (xs : List A) (ys : List B) → AllZip R xs ys → AllZip R (drop n xs) (drop n ys)
AllZip-drop R zero xs ys all = all
AllZip-drop R (suc n) [] [] all = tt
AllZip-drop R (suc n) [] (y ∷ ys) all = absurd all
AllZip-drop R (suc n) (x ∷ xs) [] all = absurd all
AllZip-drop R (suc n) (x ∷ xs) (y ∷ ys) all = AllZip-drop R n xs ys all.1

pub AreSeenAt-long : (test : ℕ → ℕ → Bool) (layers : List Drawn) (shows : List (List Rect)) → AreSeenAt test layers shows → length shows ≡ length layers
AreSeenAt-long test [] shows a = ap length a
AreSeenAt-long test (d ∷ ds) [] a = absurd a
AreSeenAt-long test (d ∷ ds) (r ∷ rs) a = ap suc (AreSeenAt-long test ds rs a.1)

-- regions that have what shows at some points have it at fewer
pub AreSeenAt-visible : (some : ℤ → ℤ → Bool) (fewer : ℕ → ℕ → Bool) (layers : List Drawn) (shows : List (List Rect)) → ((x y : ℕ) → fewer x y ≡ true → some (pos x) (pos y) ≡ true) → AreVisibleAt some layers shows → AreSeenAt fewer layers shows
AreSeenAt-visible some fewer [] shows within a = a
AreSeenAt-visible some fewer (d ∷ ds) [] within a = a
AreSeenAt-visible some fewer (d ∷ ds) (r ∷ rs) within a = (λ x y t. a.0 (pos x) (pos y) (within x y t), AreSeenAt-visible some fewer ds rs within a.1)

-- the same where such regions are given
pub AreGivenAt-shown : (some : ℤ → ℤ → Bool) (fewer : ℕ → ℕ → Bool) (layers : List Drawn) (shows : Option (Bor (List (List Rect)))) → ((x y : ℕ) → fewer x y ≡ true → some (pos x) (pos y) ≡ true) → AreShownAt some layers shows → AreGivenAt fewer layers shows
AreGivenAt-shown some fewer layers None within a = tt
AreGivenAt-shown some fewer layers (Some shows) within a = AreSeenAt-visible some fewer layers shows.now within a

pub AreShownAt-within : (some fewer : ℤ → ℤ → Bool) (layers : List Drawn) (shows : Option (Bor (List (List Rect)))) → ((x y : ℤ) → fewer x y ≡ true → some x y ≡ true) → AreShownAt some layers shows → AreShownAt fewer layers shows
AreShownAt-within some fewer layers None within a = tt
AreShownAt-within some fewer layers (Some shows) within a = AreVisibleAt-within some fewer layers shows.now within a

-- slices

slice_higher : (left right top y z a b : ℕ) → top ≤ y → y < z → is_in_box left right top z a b ≡ (is_in_box left right top y a b || is_in_box left right y z a b)
slice_higher left right top y z a b h k = grind (arith, nat_tests)

slice_apart : (left right top y z a b : ℕ) → is_in_box left right top y a b ≡ true → is_in_box left right y z a b ≡ false
slice_apart left right top y z a b t = grind (arith, nat_tests)

-- a slice lies in its area
pub slice_within : (area slice : Area) (top x y : ℕ) → slice.left ≡ area.left → slice.right ≡ area.right → slice.top ≡ top → area.top ≤ top → slice.bottom ≤ area.bottom → is_in_area slice x y ≡ true → is_in_area area x y ≡ true
slice_within area slice top x y is_left is_right is_top low high t = box_within slice.left slice.right slice.top slice.bottom area.left area.right area.top area.bottom x y is_left is_right (rw is_top low) high t
  where
    box_within : (l r t b left right up down x y : ℕ) → l ≡ left → r ≡ right → up ≤ t → b ≤ down → is_in_box l r t b x y ≡ true → is_in_box left right up down x y ≡ true
    box_within l r t b left right up down x y p q h k in_slice = grind (arith, nat_tests)

-- one slice more
pub Paints-slice : (w base : ℕ) (area slice : Area) (top : ℕ) (f : ℕ → ℕ → Rgba → Rgba) (old mid new : List ℕ) → slice.left ≡ area.left → slice.right ≡ area.right → slice.top ≡ top → area.top ≤ top → top < slice.bottom → Paints w base (is_in_box area.left area.right area.top top) f old mid → Paints w base (is_in_area slice) f mid new → Paints w base (is_in_box area.left area.right area.top slice.bottom) f old new
Paints-slice w base area slice top f old mid new is_left is_right is_top low more a b =
    Paints-then w base (is_in_box area.left area.right area.top top) (is_in_area slice) (is_in_box area.left area.right area.top slice.bottom) f old mid new a b
    (λ x y. rw (is_left, is_right, is_top) (slice_higher area.left area.right area.top top slice.bottom x y low more))
    (λ x y t. rw (is_left, is_right, is_top) (slice_apart area.left area.right area.top top slice.bottom x y t))

-- an area that was painted with an image is repainted
pub Repaints-area : (w base bottom : ℕ) (p q : ℕ → ℕ → Bool) (f : ℕ → ℕ → Rgba → Rgba) (image : ℕ → ℕ → Rgba) (old new : List ℕ) → Paints w base p f old new → ((x y : ℕ) → x < w → base ≤ y → y < bottom → q x y ≡ p x y) → ((x y : ℕ) (under : Rgba) → f x y under ≡ image x y) → Repaints w base bottom q image old new
Repaints-area w base bottom p q f image old new a tests paints = record {
  size = a.size;
  pixels = λ x y wide low high. by_test x y wide low high (p x y) refl;
}
  where
    by_test : (x y : ℕ) → x < w → base ≤ y → y < bottom → (t : Bool) → p x y ≡ t → pixel_in new ((y - base) * w + x) ≡ (if q x y then image x y else pixel_in old ((y - base) * w + x))
    by_test x y wide low high true t = rw (tests x y wide low high, t) ((rw t at (a.pixels x y wide low)) ∙ paints x y (pixel_in old ((y - base) * w + x)))
    by_test x y wide low high false t = rw (tests x y wide low high, t) (rw t at (a.pixels x y wide low))
