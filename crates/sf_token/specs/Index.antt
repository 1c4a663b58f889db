-- The index of pending transactions by token: each token's queue of numbers.
use Rattle.std.specs.Prelude.{◌≡◌, ℕ, ◌==◌, ◌<◌, List, [], ◌∷◌, Option, Some, None, filter, if◌then◌else◌, map}
use Rattle.std.specs.BTreeMap.{BTreeMap, get}
use Rattle.std.specs.List.{slice_get}
use Rattle.std.specs.Option.{IsSomeAnd, option_and_then, option_map, unwrap_or}
use Rattle.std.specs.Ordering.{nat_cmp}
use Rattle.std.specs.VecDeque.{deque_capacity, deque_items, deque_len}
use Rattle.std.specs.declared.collections.VecDeque.{VecDeque}
use Rattle.sf_token.specs.Pending.{Arrival, is_of}

-- the numbers of a queue; where there is no queue there are none
abbrev pub numbers_in : Option (List ℕ) → List ℕ
numbers_in queue = unwrap_or queue []

-- the queue of these numbers; where there are none there is no queue
abbrev pub queue_with : List ℕ → Option (List ℕ)
queue_with [] = None
queue_with (number ∷ later) = Some (number ∷ later)

-- the first number of a queue
abbrev pub first_in : Option (List ℕ) → Option ℕ
first_in queue = option_and_then (λ numbers. slice_get numbers 0) queue

-- a token's queue became this one, and the others stayed
abbrev pub Becomes : (ℕ → Option (List ℕ)) → (ℕ → Option (List ℕ)) → ℕ → Option (List ℕ) → Type 0
Becomes old new token queue = (t : ℕ) → new t ≡ (if token == t then queue else old t)

module _ {Z : Type 0} where
  -- the queue of a token
  abbrev pub queue_of : BTreeMap ℕ (VecDeque ℕ Z) → ℕ → Option (List ℕ)
  queue_of queues token = option_map deque_items (get nat_cmp queues token)

  -- the token has a queue, with room for one number more
  abbrev pub HasRoomAt : BTreeMap ℕ (VecDeque ℕ Z) → ℕ → Type 0
  HasRoomAt queues token = IsSomeAnd (get nat_cmp queues token) (λ queue. deque_len queue < deque_capacity queue)

module _ {L : Type 0} where
  -- the numbers of what is pending of a token, in the order of arrival
  abbrev pub numbers_of : ℕ → List (Arrival L) → List ℕ
  numbers_of token pending = map (λ arrived. arrived.number) (filter (is_of (record { 0 = token })) pending)

  -- each token's queue is the numbers of what is pending of it; a token with nothing pending has no queue
  abbrev pub IsIndex : (ℕ → Option (List ℕ)) → List (Arrival L) → Type 0
  IsIndex queue pending = (token : ℕ) → queue token ≡ queue_with (numbers_of token pending)
