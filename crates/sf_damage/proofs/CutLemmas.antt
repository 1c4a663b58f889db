-- A window that is cut in two.
use Rattle.std.proofs.Common.{◌≡◌, ℕ, ◌+◌, ◌-◌, ◌≤◌, ℤ, Bool, true, false, ◌&&◌, ◌||◌, pos, refl, arith}
use Rattle.std.specs.Prelude.{◌+ℤ◌}
use Rattle.std.proofs.lemmas.Bool.Decides.{nat_tests}
use Rattle.std.proofs.lemmas.Int.{ints}
use Rattle.sf_base.specs.Geometry.{covers, is_within}
use Rattle.sf_base.specs.declared.geometry.Rect.{Rect}
use Rattle.sf_region.specs.Points.{IsInBounds}
use Rattle.sf_damage.specs.Damage.{AreHalves}

span_cut : (first start at : ℤ) (extent many rest : ℕ) → extent ≡ many + rest → start ≡ (first +ℤ pos many) → is_within first extent at ≡ (is_within first many at || is_within start rest at)
span_cut first start at extent many rest sum is = grind (arith, ints, nat_tests)

either_and : (a b c : Bool) → ((a || b) && c) ≡ ((a && c) || (b && c))
either_and true true true = refl
either_and true true false = refl
either_and true false true = refl
either_and true false false = refl
either_and false b c = refl

and_either : (a b c : Bool) → (c && (a || b)) ≡ ((c && a) || (c && b))
and_either a b true = refl
and_either a b false = refl

pub columns : (window : Rect) (start : ℤ) (column : ℕ) → IsInBounds window → column ≤ window.width → start ≡ (window.x +ℤ pos column)
    → AreHalves window (record { x = window.x; y = window.y; width = column; height = window.height }, record { x = start; y = window.y; width = window.width - column; height = window.height })
unfolding covers
columns window start column near inside is = record {
  first = record { left = near.left; right = omega (arith, ints, near.right, inside); top = near.top; bottom = near.bottom };
  second = record { left = omega (arith, ints, is, near.left); right = omega (arith, ints, is, near.right, inside); top = near.top; bottom = near.bottom };
  points = λ x y.
      rw (span_cut window.x start x window.width column (window.width - column) (omega (arith, inside)) is) (either_and (is_within window.x column x) (is_within start (window.width - column) x) (is_within window.y window.height y));
}

pub rows : (window : Rect) (start : ℤ) (row : ℕ) → IsInBounds window → row ≤ window.height → start ≡ (window.y +ℤ pos row)
    → AreHalves window (record { x = window.x; y = window.y; width = window.width; height = row }, record { x = window.x; y = start; width = window.width; height = window.height - row })
unfolding covers
rows window start row near inside is = record {
  first = record { left = near.left; right = near.right; top = near.top; bottom = omega (arith, ints, near.bottom, inside) };
  second = record { left = near.left; right = near.right; top = omega (arith, ints, is, near.top); bottom = omega (arith, ints, is, near.bottom, inside) };
  points = λ x y.
      rw (span_cut window.y start y window.height row (window.height - row) (omega (arith, inside)) is) (and_either (is_within window.y row y) (is_within start (window.height - row) y) (is_within window.x window.width x));
}
