-- Transactions on their way: as they are sent, and as they are taken, each with its number.
use Rattle.std.specs.Prelude.{◌≡◌, ℕ, ◌+◌, ◌-◌, ◌==◌, max, Bool, List, [], ◌∷◌, ◌++◌, filter, length, take}
use Rattle.sf_base.specs.declared.ids.ActorId.{ActorId}
use Rattle.sf_token.specs.sf_txn.Transactions.{Contents}
use Rattle.sf_token.specs.Pending.{Arrival}

-- a transaction as it is sent: who sends it, at which step, and with which stamp
pub record Post (L : Type 0) : Type 0 where
  pub actor : ActorId
  pub step : ℕ
  pub stamp : ℕ
  pub txn : Contents L

-- the list ys goes on from xs: it begins with all of xs
abbrev pub Begins : {A : Type 0} → List A → List A → Type 0
Begins xs ys = (more : List _) × (ys ≡ xs ++ more)

-- a list without the other, which is its end
abbrev pub before : {A : Type 0} → List A → List A → List A
before list end = take (length list - length end) list

module _ {L : Type 0} where
  -- the post is of the sender b
  abbrev pub is_by : ℕ → Post L → Bool
  is_by b post = post.actor.0 == b

  -- what the sender b sent, in order
  abbrev pub posts_by : ℕ → List (Post L) → List (Post L)
  posts_by b posts = filter (is_by b) posts

  -- the greatest stamp of these posts, 0 where there is none
  abbrev pub newest_of : List (Post L) → ℕ
  newest_of [] = 0
  newest_of (post ∷ posts) = max post.stamp (newest_of posts)

  -- a transaction that was taken as the one of this number
  abbrev pub numbered : ℕ → Post L → Arrival L
  numbered n post = record { number = n; actor = post.actor; step = post.step; txn = post.txn }

  -- transactions that were taken one after another, the first as the one of this number
  abbrev pub arrivals : ℕ → List (Post L) → List (Arrival L)
  arrivals n [] = []
  arrivals n (post ∷ posts) = numbered n post ∷ arrivals (n + 1) posts

  -- the numbers go on from n one by one
  abbrev pub IsNumberedFrom : ℕ → List (Arrival L) → Type 0
  IsNumberedFrom n [] = Unit {0}
  IsNumberedFrom n (arrived ∷ later) = (arrived.number ≡ n) × IsNumberedFrom (n + 1) later
