-- A call that a caller's event leads to, made by another later on: it comes among what the caller has yet to do by its stamp alone.
use Rattle.std.specs.Prelude.{ℕ, Bool, false, nat_lt, if◌then◌else◌, List, [], ◌∷◌, map, Option, Some, None}
use Rattle.std.specs.List.{list_any}
use Rattle.law_threads.specs.Orders.{Spot}

-- the stamp of a call is above this one; or below it
abbrev pub is_above : (Spot → ℕ) → ℕ → Option Spot → Bool
is_above stamp n None = false
is_above stamp n (Some here) = nat_lt n (stamp here)

abbrev pub is_below : (Spot → ℕ) → ℕ → Option Spot → Bool
is_below stamp n None = false
is_below stamp n (Some here) = nat_lt (stamp here) n

module _ {A : Type 0} (spot : A → Option Spot) (stamp : Spot → ℕ) (meanwhile : A → A) where
  abbrev pub some_above : ℕ → List A → Bool
  some_above n block = list_any (λ (event : A). is_above stamp n (spot event)) block

  abbrev pub some_below : ℕ → List A → Bool
  some_below n block = list_any (λ (event : A). is_below stamp n (spot event)) block

  -- An event with a call of this stamp, among blocks: it comes before the first one with a call of a greater stamp, or into it where
  -- that one has a call of a lesser stamp too. What comes before it is as it is meanwhile.
  unfoldable pub delayed : A → ℕ → List (List A) → List (List A)
  delayed event n [] = (event ∷ []) ∷ []
  delayed event n (block ∷ later) =
      if some_above n block then (if some_below n block then (event ∷ block) ∷ later else (event ∷ []) ∷ block ∷ later) else map meanwhile block ∷ delayed event n later
