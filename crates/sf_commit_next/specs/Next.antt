-- How the next transaction is found: the looks at what is pending, by number, and the tokens, from the lowest on.
use Rattle.std.specs.Prelude.{◌≡◌, ℕ, ◌<◌, ◌==◌, Bool, List, [], ◌∷◌, map, Option, Some, None, IsSome}
use Rattle.std.specs.List.{find}
use Rattle.std.specs.Option.{option_map_or}
use Rattle.sf_base.specs.declared.ids.TokenId.{TokenId}
use Rattle.sf_token.specs.Pending.{Arrival}
use Rattle.sf_token.specs.declared.looks.Looks.{Looks}

-- what the looks at the transaction of a number showed
abbrev pub drawn_for : List Looks → ℕ → List Bool
drawn_for looks number = option_map_or (λ (look : Looks). look.drawn) (find (λ (look : Looks). look.number == number) looks) []

-- they are what the last looks at its buffers showed
pub record IsLookedAt {L : Type 0} (drawn : L → Bool) (looks : List Looks) (arrived : Arrival L) : Type 0 where
  pub same : drawn_for looks arrived.number ≡ map (λ buffer. drawn buffer.lease) arrived.txn.buffers

-- of the tokens for which something is ready, it is the lowest
abbrev pub IsNextToken : {A : Type 0} → (TokenId → Option A) → Option TokenId → Type 0
IsNextToken ready None = (token : TokenId) → ready token ≡ None
IsNextToken ready (Some next) = IsSome (ready next) × ((token : TokenId) → token.0 < next.0 → ready token ≡ None)

-- the numbers of looks rise from this one on
abbrev pub AreRising : ℕ → List Looks → Type 0
AreRising before [] = Unit {0}
AreRising before (look ∷ looks) = (before < look.number) × AreRising look.number looks
