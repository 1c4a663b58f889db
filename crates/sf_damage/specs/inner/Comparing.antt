-- Two lists of drawn layers that are compared over a part, layer after layer.
use Rattle.std.specs.Prelude.{◌≡◌, ◌≢◌, ◌↔◌, ◌⊎◌, ℕ, ℤ, Bool, true, ◌||◌, IsTrue, List, [], ◌∷◌, ◌++◌, drop}
use Rattle.std.specs.List.{All, list_any}
use Rattle.sf_base.specs.declared.geometry.Rect.{Rect}
use Rattle.sf_region.specs.Points.{has}
use Rattle.sf_view.specs.declared.drawn.Drawn.{Drawn}
use Rattle.sf_damage.specs.Damage.{stack_in}
use Rattle.sf_damage.specs.declared.pieces.Piece.{Piece}

-- two lists of drawn layers, from the back, and the part at whose points they are compared
pub record Comparison : Type 0 where
  pub olds : List Drawn
  pub news : List Drawn
  pub part : List Rect

-- a point of the part at which the stacks differ
abbrev pub Differ : Comparison → ℤ → ℤ → Type 0
Differ c x y = IsTrue (has c.part x y) × (stack_in c.olds x y ≢ stack_in c.news x y)

-- a piece in which they differ exactly where the stacks of the layers do that are still to be compared
abbrev pub IsOpen : Comparison → List Drawn → List Drawn → Piece → Type 0
IsOpen c olds news piece = (x y : ℤ) → has piece.part x y ≡ true → Differ c x y ↔ (stack_in olds x y ≢ stack_in (drop piece.from news) x y)

-- whether one of these pieces has a point
abbrev pub has_piece : List Piece → ℤ → ℤ → Bool
has_piece pieces x y = list_any (λ piece. has piece.part x y) pieces

-- whether one of these regions has a point
abbrev pub has_part : List (List Rect) → ℤ → ℤ → Bool
has_part parts x y = list_any (λ part. has part x y) parts

-- a piece is appended, unless it has no point
abbrev pub IsPushed : List Rect → ℕ → List Piece → List Piece → Type 0
IsPushed part from old new = (new ≡ old ++ record { part = part; from = from } ∷ []) ⊎ ((part ≡ []) × (new ≡ old))

-- as far as they were compared: at each point that was found they differ, and each other at which they do lies in an
-- open piece, or passes a test
pub record IsTold (c : Comparison) (olds news : List Drawn) (others : ℤ → ℤ → Bool) (pieces : List Piece) (found : List (List Rect)) : Type 0 where
  pub found_differ : (x y : ℤ) → has_part found x y ≡ true → Differ c x y
  pub are_open : All (IsOpen c olds news) pieces
  pub all : (x y : ℤ) → Differ c x y → (has_part found x y || (has_piece pieces x y || others x y)) ≡ true

-- an old layer decides on a piece of the points at which it and those above it are compared: what is known with all of the
-- piece still open is known of the layers above with what is open and found afterwards
abbrev pub Decides : Drawn → List Drawn → Piece → List Piece → List (List Rect) → List Piece → List (List Rect) → Type 0
Decides old news piece above found next_above next_found = (c : Comparison) (olds : List Drawn) (others : ℤ → ℤ → Bool) → IsOpen c (old ∷ olds) news piece
    → IsTold c olds news (λ x y. has piece.part x y || others x y) above found → IsTold c olds news others next_above next_found

-- the same behind the last old layer, after which nothing is open
abbrev pub DecidesLast : List Drawn → Piece → List (List Rect) → List (List Rect) → Type 0
DecidesLast news piece found next_found = (c : Comparison) (others : ℤ → ℤ → Bool) → IsOpen c [] news piece
    → IsTold c [] news (λ x y. has piece.part x y || others x y) [] found → IsTold c [] news others [] next_found
