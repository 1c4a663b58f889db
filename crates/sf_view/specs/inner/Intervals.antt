-- Intervals of pixels of a row or a column.
use Rattle.std.specs.Prelude.{◌≡◌, ℕ, Bool, true, false, ◌&&◌, ℤ, pos, ◌+ℤ◌, ◌≤ℤ◌, int_le, int_lt}
use Rattle.sf_view.specs.declared.interval.Interval.{Interval}

-- a coordinate lies in a interval
abbrev pub is_in_interval : Interval → ℤ → Bool
is_in_interval interval at = int_le interval.from at && int_lt at interval.to

-- so many coordinates lie in a interval
pub record HasExtent (interval : Interval) (extent : ℕ) : Type 0 where
  pub below : int_lt interval.from interval.to ≡ true → (interval.from +ℤ pos extent) ≤ℤ interval.to
  pub above : int_lt interval.from interval.to ≡ true → interval.to ≤ℤ (interval.from +ℤ pos extent)
  pub none : int_lt interval.from interval.to ≡ false → extent ≡ 0
