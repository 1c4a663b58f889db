-- The least rectangle that has the points of others.
use Rattle.std.proofs.Common.{◌≡◌, ℕ, zero, suc, ◌<◌, ℤ, true, pos, List, [], ◌∷◌, length, get_or, arith}
use Rattle.std.specs.Prelude.{◌≤ℤ◌, ◌+ℤ◌}
use Rattle.std.proofs.lemmas.Bool.{and_from, and_parts}
use Rattle.std.proofs.lemmas.Bool.Decides.{nat_tests}
use Rattle.std.proofs.lemmas.Int.{ints}
use Rattle.sf_base.specs.Geometry.{covers, is_within}
use Rattle.sf_base.specs.declared.geometry.Rect.{Rect}
use Rattle.sf_region.specs.Canonical.{IsBanded}
use Rattle.sf_region.specs.Points.{IsInBounds}

-- each rectangle of a region lies within the bounds
pub banded_at : (rects : List Rect) (i : ℕ) (d : Rect) → i < length rects → IsBanded rects → IsInBounds (get_or rects i d)
banded_at [] i d h banded = absurd (omega arith)
banded_at (r ∷ rs) zero d h banded = banded.0.near
banded_at (r ∷ rs) (suc i) d h banded = banded_at rs i d (omega arith) banded.2

-- spans that have others' coordinates
pub covers_more : (r q : Rect) → ((at : ℤ) → is_within r.x r.width at ≡ true → is_within q.x q.width at ≡ true) → ((at : ℤ) → is_within r.y r.height at ≡ true → is_within q.y q.height at ≡ true)
    → (x y : ℤ) → covers r x y ≡ true → covers q x y ≡ true
unfolding covers
covers_more r q across down x y t =
    let parts = and_parts (is_within r.x r.width x) _ t in
    and_from (is_within q.x q.width x) _ (across x parts.0) (down y parts.1)

-- no span has a coordinate if it is empty
pub covers_none : (r : Rect) (x y : ℤ) → r.width ≡ 0 → covers r x y ≡ true → ⊥
unfolding covers
covers_none r x y none t = let parts = and_parts (is_within r.x r.width x) _ t in grind (arith, ints, nat_tests)

-- a span that starts no later and ends no earlier
pub within_more : (start first at : ℤ) (extent many : ℕ) → first ≤ℤ start → (start +ℤ pos extent) ≤ℤ (first +ℤ pos many) → is_within start extent at ≡ true → is_within first many at ≡ true
within_more start first at extent many before after t = grind (arith, ints, nat_tests)
