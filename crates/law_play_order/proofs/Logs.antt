-- What happened in a run, the newest first: calls, arrivals and vsyncs, each of an owner and a step of it.
use Rattle.std.proofs.Common.{◌≡◌, ℕ, ◌+◌, ◌<◌, ◌≤◌, Bool, ◌==◌, ◌&&◌, List, [], ◌∷◌, ◌++◌, length}
use Rattle.std.specs.Prelude.{◌⊎◌, if◌then◌else◌, Option, Some, None, is_some, option_to_list}
use Rattle.std.specs.List.{AllByRecursion}
use Rattle.law_played.specs.sf_actor.Names.{FrameOf}
use Rattle.law_played.specs.sf_token.Pending.{Arrival}
use Rattle.law_played.specs.sf_actor.sf_slots.declared.calls.Entry.{Entry}

pub data Moment : Type 0 where
  Called : ℕ → Entry → Moment
  Arrived : Arrival FrameOf → Moment
  Vsynced : ℕ → Moment

abbrev pub owner : Moment → ℕ
owner (Called queue entry) = entry.caller.0
owner (Arrived arrived) = arrived.actor.0
owner (Vsynced number) = 0

abbrev pub step_of : Moment → ℕ
step_of (Called queue entry) = entry.step
step_of (Arrived arrived) = arrived.step
step_of (Vsynced number) = number

-- nothing older of the owner is of a later step, and behind a vsync none of the compositor's is of its step
abbrev pub Follows : Moment → Moment → Type 0
Follows (Called queue entry) older = owner older ≡ entry.caller.0 → step_of older ≤ entry.step
Follows (Arrived arrived) older = owner older ≡ arrived.actor.0 → step_of older ≤ arrived.step
Follows (Vsynced number) older = owner older ≡ 0 → step_of older < number

abbrev pub IsTimely : List Moment → Type 0
IsTimely [] = Unit {0}
IsTimely (m ∷ log) = AllByRecursion (Follows m) log × IsTimely log

-- what a moment is of a kind: a call on a queue, an arrival, a vsync
abbrev pub on : ℕ → Moment → Option Entry
on queue (Called other entry) = if other == queue then Some entry else None
on queue (Arrived arrived) = None
on queue (Vsynced number) = None

abbrev pub arrival_in : Moment → Option (Arrival FrameOf)
arrival_in (Called queue entry) = None
arrival_in (Arrived arrived) = Some arrived
arrival_in (Vsynced number) = None

abbrev pub vsync_of : Moment → Option ℕ
vsync_of (Called queue entry) = None
vsync_of (Arrived arrived) = None
vsync_of (Vsynced number) = Some number

abbrev pub is_on : ℕ → Moment → Bool
is_on queue m = is_some (on queue m)

abbrev pub is_arrival : Moment → Bool
is_arrival m = is_some (arrival_in m)

abbrev pub is_vsync : Moment → Bool
is_vsync m = is_some (vsync_of m)

-- all of a kind, the oldest first
abbrev pub items : {X : Type 0} → (Moment → Option X) → List Moment → List X
items pick [] = []
items pick (m ∷ log) = items pick log ++ option_to_list (pick m)

abbrev pub bit : Bool → ℕ
bit b = if b then 1 else 0

abbrev pub count : (Moment → Bool) → List Moment → ℕ
count kind [] = 0
count kind (m ∷ log) = bit (kind m) + count kind log

-- arrivals and vsyncs are numbered in their order, from 1
abbrev pub IsNumber : Moment → List Moment → Type 0
IsNumber (Called queue entry) older = Unit {0}
IsNumber (Arrived arrived) older = arrived.number ≡ count is_arrival older + 1
IsNumber (Vsynced number) older = number ≡ count is_vsync older + 1

abbrev pub AreNumbered : List Moment → Type 0
AreNumbered [] = Unit {0}
AreNumbered (m ∷ log) = IsNumber m log × AreNumbered log

-- a list is the end of another
abbrev pub IsEnd : List Moment → List Moment → Type 0
IsEnd end [] = end ≡ []
IsEnd end (m ∷ log) = (end ≡ m ∷ log) ⊎ IsEnd end log

-- the number of the moment of a kind before which so many of the kind were, one more than how many moments were before it
abbrev pub number_of : (Moment → Bool) → ℕ → List Moment → ℕ
number_of kind place [] = 0
number_of kind place (m ∷ log) = if kind m && (count kind log == place) then length log + 1 else number_of kind place log
