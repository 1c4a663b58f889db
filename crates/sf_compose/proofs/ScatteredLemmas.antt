-- A part of many rectangles that is painted layer by layer.
use Rattle.std.proofs.Common.{◌≡◌, ℕ, ◌+◌, ◌<◌, ◌&&◌, Bool, true, false, List, [], ◌∷◌, length, get_or, take, zero, suc, refl, sym, pos, ℤ, arith}
use Rattle.std.proofs.lemmas.Bool.{false≢true}
use Rattle.sf_base.specs.Geometry.{covers}
use Rattle.sf_base.specs.declared.geometry.Rect.{Rect}
use Rattle.sf_base.specs.declared.pixel.Rgba.{Rgba}
use Rattle.sf_damage.specs.sf_region.Canonical.{IsBanded, IsDisjoint}
use Rattle.sf_damage.specs.sf_region.Points.{IsInBounds, has}
use Rattle.sf_compose.specs.inner.Painting.{Paints}
use Rattle.sf_compose.proofs.PaintLemmas.{Paints-same}
use Rattle.sf_compose.proofs.SeenLemmas.{Paints-piece}

-- what stands for a rectangle of an empty list
abbrev pub nowhere : Rect
nowhere = record { x = pos 0; y = pos 0; width = 0; height = 0 }

-- each rectangle of bands lies within the bounds of regions
pub near_at : (rects : List Rect) (i : ℕ) (d : Rect) → i < length rects → IsBanded rects → IsInBounds (get_or rects i d)
near_at [] i d h banded = absurd (omega (arith, h))
near_at (r ∷ rs) zero d h banded = banded.0.near
near_at (r ∷ rs) (suc i) d h banded = near_at rs i d (omega (arith, h)) banded.2

pub beside : (t h : Bool) → t ≡ false → (t && h) ≡ false
beside true h e = absurd (false≢true (sym e))
beside false h e = refl

pub inside : (a h : Bool) → a ≡ true → h ≡ (a && h)
inside true h e = refl
inside false h e = absurd (false≢true e)

by_test : (a c : Bool) (h k : Bool) → (c ≡ true → h ≡ k) → ((a && c) && h) ≡ ((a && c) && k)
by_test true true h k same = same refl
by_test true false h k same = refl
by_test false c h k same = refl

-- rectangles are passed over that share no point with another one
pub Paints-passed : (w base : ℕ) (area : ℕ → ℕ → Bool) (shown : Rect) (parts : List Rect) (i j : ℕ) (f : ℕ → ℕ → Rgba → Rgba) (old new : List ℕ) → ((x y : ℤ) → covers shown x y ≡ true → has (take j parts) x y ≡ has (take i parts) x y)
    → Paints w base (λ x y. (area x y && covers shown (pos x) (pos y)) && has (take i parts) (pos x) (pos y)) f old new → Paints w base (λ x y. (area x y && covers shown (pos x) (pos y)) && has (take j parts) (pos x) (pos y)) f old new
Paints-passed w base area shown parts i j f old new same a =
    Paints-same w base (λ x y. (area x y && covers shown (pos x) (pos y)) && has (take i parts) (pos x) (pos y)) (λ x y. (area x y && covers shown (pos x) (pos y)) && has (take j parts) (pos x) (pos y)) f f old new a
    (λ x y. by_test (area x y) (covers shown (pos x) (pos y)) (has (take j parts) (pos x) (pos y)) (has (take i parts) (pos x) (pos y)) (same (pos x) (pos y)))
    (λ x y under t. refl)

exchange : (a c h : Bool) → ((a && c) && h) ≡ ((a && h) && c)
exchange true true true = refl
exchange true true false = refl
exchange true false true = refl
exchange true false false = refl
exchange false c h = refl

-- one rectangle more in which a layer shows
pub Paints-shown : (w base : ℕ) (area : ℕ → ℕ → Bool) (part shows : List Rect) (i : ℕ) (d : Rect) (f : ℕ → ℕ → Rgba → Rgba) (old mid new : List ℕ) → IsDisjoint shows → i < length shows
    → Paints w base (λ x y. (area x y && has part (pos x) (pos y)) && has (take i shows) (pos x) (pos y)) f old mid → Paints w base (λ x y. (area x y && covers (get_or shows i d) (pos x) (pos y)) && has part (pos x) (pos y)) f mid new
    → Paints w base (λ x y. (area x y && has part (pos x) (pos y)) && has (take (i + 1) shows) (pos x) (pos y)) f old new
Paints-shown w base area part shows i d f old mid new apart h a b =
    Paints-piece w base (λ x y. area x y && has part (pos x) (pos y)) (λ x y. (area x y && covers (get_or shows i d) (pos x) (pos y)) && has part (pos x) (pos y)) shows i d f old mid new apart h a b
    (λ x y. exchange (area x y) (covers (get_or shows i d) (pos x) (pos y)) (has part (pos x) (pos y)))
