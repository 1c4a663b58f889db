-- The calls of several callers on several locks, brought into one order.
use Rattle.std.specs.Prelude.{◌≡◌, ℕ, ◌+◌, ◌<◌, ◌≤◌, ◌==◌, ◌&&◌, Bool, false, if◌then◌else◌}
use Rattle.std.specs.Prelude.{List, [], ◌∷◌, ◌++◌, Contains, Option, Some, None}

-- a call, by its lock, and by its place among all calls there, from 0
abbrev pub Spot : Type 0
Spot = ℕ × ℕ

abbrev pub is_spot : Spot → Option Spot → Bool
is_spot here None = false
is_spot here (Some spot) = (spot.0 == here.0) && (spot.1 == here.1)

-- one more call on a lock
abbrev pub raised : (ℕ → ℕ) → ℕ → ℕ → ℕ
raised heights lock = λ other. if other == lock then heights other + 1 else heights other

-- along each lock stamps rise
abbrev pub StampsRise : (Spot → ℕ) → (ℕ → ℕ) → Type 0
StampsRise stamp many = (lock early late : ℕ) → early < late → late < many lock → stamp (lock, early) < stamp (lock, late)

-- Events, each of which is the call at a spot, or none. What a caller has yet to do are blocks, one after the other, and the events of a
-- block come in any order.
module _ {A : Type 0} (spot : A → Option Spot) where
  -- how many of these events are the call at a spot
  abbrev pub times_at : Spot → List A → ℕ
  times_at here [] = 0
  times_at here (event ∷ later) = (if is_spot here (spot event) then 1 else 0) + times_at here later

  abbrev pub events_in : List (List A) → List A
  events_in [] = []
  events_in (block ∷ later) = block ++ events_in later

  abbrev pub all_events : List (List (List A)) → List A
  all_events [] = []
  all_events (caller ∷ callers) = events_in caller ++ all_events callers

  -- Of each lock so many calls are done: each further one is one event that is yet to come, once, and none before it is.
  pub record IsCut (many heights : ℕ → ℕ) (rest : List (List (List A))) : Type 0 where
    pub below : (lock : ℕ) → heights lock ≤ many lock
    pub to_come : (here : Spot) → heights here.0 ≤ here.1 → here.1 < many here.0 → times_at here (all_events rest) ≡ 1
    pub done : (here : Spot) → here.1 < heights here.0 → times_at here (all_events rest) ≡ 0
    pub beyond : (here : Spot) → many here.0 ≤ here.1 → times_at here (all_events rest) ≡ 0

  -- an event's stamp is not above another's, if both are calls
  abbrev pub ComesFirst : (Spot → ℕ) → A → A → Type 0
  ComesFirst stamp event other = (here there : Spot) → spot event ≡ Some here → spot other ≡ Some there → stamp here ≤ stamp there

  -- so it is of a block and all later ones
  abbrev pub IsInTurn : (Spot → ℕ) → List (List A) → Type 0
  IsInTurn stamp [] = Unit {0}
  IsInTurn stamp (block ∷ later) =
      ((event other : A) → Contains block event → Contains (events_in later) other → ComesFirst stamp event other) × IsInTurn stamp later

  abbrev pub AreInTurn : (Spot → ℕ) → List (List (List A)) → Type 0
  AreInTurn stamp [] = Unit {0}
  AreInTurn stamp (caller ∷ callers) = IsInTurn stamp caller × AreInTurn stamp callers

  abbrev pub AreDone : List (List (List A)) → Type 0
  AreDone [] = Unit {0}
  AreDone (caller ∷ callers) = (caller ≡ []) × AreDone callers

  -- an event of the first block of a caller is done
  pub record Does (rest left : List (List (List A))) : Type 0 where
    pub callers : List (List (List A))
    pub earlier : List A
    pub event : A
    pub later : List A
    pub blocks : List (List A)
    pub others : List (List (List A))
    pub was : rest ≡ callers ++ ((earlier ++ event ∷ later) ∷ blocks) ∷ others
    pub is : left ≡ callers ++ ((earlier ++ later) ∷ blocks) ∷ others

  -- a caller's first block is done
  pub record Passes (rest left : List (List (List A))) : Type 0 where
    pub callers : List (List (List A))
    pub blocks : List (List A)
    pub others : List (List (List A))
    pub was : rest ≡ callers ++ ([] ∷ blocks) ∷ others
    pub is : left ≡ callers ++ blocks ∷ others

  -- An order of all events: each that is a call is the next one on its lock.
  pub data Order (many : ℕ → ℕ) : (ℕ → ℕ) → List (List (List A)) → Type 0 where
    End : {heights : ℕ → ℕ} {rest : List (List (List A))} → AreDone rest → ((lock : ℕ) → heights lock ≡ many lock) → Order many heights rest
    Pass : {heights : ℕ → ℕ} {rest left : List (List (List A))} → Passes rest left → Order many heights left → Order many heights rest
    Still : {heights : ℕ → ℕ} {rest left : List (List (List A))} (does : Does rest left) → spot does.event ≡ None → Order many heights left → Order many heights rest
    Call : {heights : ℕ → ℕ} {rest left : List (List (List A))} (does : Does rest left) (here : Spot) → spot does.event ≡ Some here → here.1 ≡ heights here.0
        → Order many (raised heights here.0) left → Order many heights rest
