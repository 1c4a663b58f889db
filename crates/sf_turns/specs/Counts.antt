-- Numbers that are read off lists of leaves, of counts that were seen and of buffers.
use Rattle.std.specs.Prelude.{◌≡◌, ℕ, zero, suc, ◌+◌, ◌<◌, ◌≤◌, ◌==◌, Option, Some, None, List, [], ◌∷◌, if◌then◌else◌}
use Rattle.sf_base.specs.Points.{greatest}
use Rattle.sf_turns.specs.declared.protocol.Token.{Token}

-- 1 where a is b, else 0
abbrev pub same : ℕ → ℕ → ℕ
same a b = if a == b then 1 else 0

-- 1 where the turn k of the buffer b is the turn n of the buffer a, else 0
abbrev pub same_turn : ℕ → ℕ → ℕ → ℕ → ℕ
same_turn b k a n = if b == a then same k n else 0

-- how often the turn k of the buffer b is among the leaves
abbrev pub leaf_at : ℕ → ℕ → List (ℕ × ℕ) → ℕ
leaf_at b k [] = 0
leaf_at b k (p ∷ ps) = same_turn b k p.0 p.1 + leaf_at b k ps

-- how many leaves are of the buffer b
abbrev pub leaves_of : ℕ → List (ℕ × ℕ) → ℕ
leaves_of b [] = 0
leaves_of b (p ∷ ps) = same b p.0 + leaves_of b ps

-- how often the buffer b is in the stock
abbrev pub stock_at : ℕ → List ℕ → ℕ
stock_at b [] = 0
stock_at b (x ∷ xs) = same b x + stock_at b xs

-- 1 where the token is the turn k of the buffer b, else 0
abbrev pub token_at : {T : Type 0} → ℕ → ℕ → Option (Token T) → ℕ
token_at b k None = 0
token_at b k (Some t) = same_turn b k t.buffer t.number

-- the numbers from a on, n of them
abbrev pub range : ℕ → ℕ → List ℕ
range a zero = []
range a (suc n) = a ∷ range (a + 1) n

-- the leaves of each buffer are the turn numbers below their count, each once, and no greater
-- count was seen
pub record IsExact (buffers : ℕ) (leaves seen : List (ℕ × ℕ)) : Type 0 where
  pub unseen : (b : ℕ) → b < buffers → greatest b seen ≤ leaves_of b leaves
  pub once : (b k : ℕ) → b < buffers → k < leaves_of b leaves → leaf_at b k leaves ≡ 1
  pub never : (b k : ℕ) → b < buffers → leaves_of b leaves ≤ k → leaf_at b k leaves ≡ 0
