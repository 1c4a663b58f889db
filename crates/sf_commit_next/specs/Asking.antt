-- Which tokens a vsync has to ask yet for what commits next.
use Rattle.std.specs.Prelude.{◌≡◌, ℕ, ◌<◌, ◌==◌, Bool, true, false, if◌then◌else◌, List, [], ◌∷◌, Option, Some, None, IsSome, IfSome}
use Rattle.std.specs.List.{list_any}
use Rattle.sf_base.specs.declared.fences.Seen.{Seen}
use Rattle.sf_base.specs.declared.ids.TokenId.{TokenId}
use Rattle.sf_ready.specs.Facts.{FactsOf}
use Rattle.sf_ready.specs.declared.hold.Hold.{Hold}
use Rattle.sf_ready.specs.declared.hold.Hold.TheVariants as hold
use Rattle.sf_token.specs.Pending.{Arrival}
use Rattle.sf_commit_next.specs.Next.{IsNextToken}
use Rattle.sf_commit_next.specs.Heads.{ready_of}
use Rattle.sf_commit_next.specs.declared.next.Answer.{Answer}
use Rattle.sf_commit_next.specs.declared.next.Answer.TheVariants as answer

-- a token is among those of these numbers
abbrev pub has_token : List ℕ → TokenId → Bool
has_token numbers token = list_any (λ number. number == token.0) numbers

-- the lowest of them was taken out, if there is one
abbrev pub TakesLowest : List ℕ → List ℕ → Option TokenId → Type 0
TakesLowest old new None = (old ≡ []) × (new ≡ [])
TakesLowest old new (Some token) = (old ≡ token.0 ∷ new) × ((other : TokenId) → other.0 < token.0 → has_token new other ≡ false)

-- one token more is among them
abbrev pub HasAlso : List ℕ → List ℕ → TokenId → Type 0
HasAlso old new token = (other : TokenId) → has_token new other ≡ has_token (token.0 ∷ old) other

-- no commit of a vsync changes that this holds a transaction
abbrev pub lasts : Hold → Bool
lasts hold.Behind = true
lasts (hold.Time _) = true
lasts (hold.Fence _ _) = true
lasts (hold.Undrawn _ _) = true
lasts (hold.Barrier _ _) = false
lasts (hold.Pressure _) = false

-- what is learned of a token by what holds its first transaction
abbrev pub answer_of : Option Hold → Answer
answer_of None = answer.Ready
answer_of (Some h) = if lasts h then answer.Out else answer.Stopped

module _ {L : Type 0} (drawn : L → Bool) (seen : Seen) (expected : ℕ) where
  -- whatever commits, nothing of the token does in this vsync
  abbrev pub IsOut : List (Arrival L) → TokenId → Type 0
  IsOut pending token = (facts : FactsOf) → ready_of drawn seen expected facts pending token ≡ None

  abbrev pub IsAnswer : FactsOf → List (Arrival L) → TokenId → Answer → Type 0
  IsAnswer facts pending token answer.Ready = IsSome (ready_of drawn seen expected facts pending token)
  IsAnswer facts pending token answer.Stopped = ready_of drawn seen expected facts pending token ≡ None
  IsAnswer facts pending token answer.Out = IsOut pending token

  -- all tokens but these are out
  abbrev pub AsksEnough : List ℕ → List (Arrival L) → Type 0
  AsksEnough numbers pending = (token : TokenId) → has_token numbers token ≡ false → IsOut pending token

  -- all tokens but these, and those that were stopped, are out
  abbrev pub AsksRest : List ℕ → List ℕ → List (Arrival L) → Type 0
  AsksRest numbers stopped pending = (token : TokenId) → has_token numbers token ≡ false → has_token stopped token ≡ false → IsOut pending token

  -- the next token was found by asking, and stays among those to be asked
  pub record FindsNext (facts : FactsOf) (pending : List (Arrival L)) (numbers stopped : List ℕ) (next : Option TokenId) : Type 0 where
    pub is_next : IsNextToken (ready_of drawn seen expected facts pending) next
    pub rest : AsksRest numbers stopped pending
    pub among : IfSome next (λ token. has_token stopped token ≡ true)
