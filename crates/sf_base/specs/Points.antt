-- Points: a number, as of a timeline or a buffer, with a value that its count was at.
use Rattle.std.specs.Prelude.{ℕ, ◌+◌, ◌==◌, max, List, [], ◌∷◌, if◌then◌else◌}

-- the value of the point, where it is one of the number t
abbrev pub value_at : ℕ → ℕ × ℕ → ℕ
value_at t p = if p.0 == t then p.1 else 0

-- the greatest value of a number among the points, 0 where there is none
abbrev pub greatest : ℕ → List (ℕ × ℕ) → ℕ
greatest t [] = 0
greatest t (p ∷ ps) = max (value_at t p) (greatest t ps)

-- the values as points of the numbers from t on
abbrev pub points_from : ℕ → List ℕ → List (ℕ × ℕ)
points_from t [] = []
points_from t (n ∷ ns) = (t, n) ∷ points_from (t + 1) ns
