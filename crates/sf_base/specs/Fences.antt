-- Fences: sets of points (timeline, value). Of each timeline the greatest value stands for all
-- its points, at the index before the timeline's number; 0 stands for none, since a point of
-- value 0 is signalled from the start and changes nothing.
use Rattle.std.specs.Prelude.{◌≡◌, ℕ, ◌+◌, ◌-◌, ◌≤◌, ◌↔◌, max, nat_le, if◌then◌else◌}
use Rattle.std.specs.Prelude.{List, [], ◌∷◌, replicate, slice_index, slice_set, MatchOption, Option, None, Some}
use Rattle.sf_base.specs.declared.fences.Seen.{Seen}
use Rattle.sf_base.specs.declared.ids.TimelineId.{TimelineId}

-- what contracts see of a fence: the value of each timeline
pub record Fence : Type 0 where
  pub values : List ℕ

-- the fence with these values, of each timeline one
abbrev pub fence_from : List ℕ → Fence
fence_from values = record { values = values }

-- the value of a timeline, where timeline t stands at t - 1
abbrev pub value_of : List ℕ → ℕ → ℕ
value_of values timeline = slice_index values (timeline - 1)

-- the empty fence
unfoldable pub no_points : Fence
no_points = record { values = replicate 64 0 }

-- a fence with one point more
unfoldable pub with_point : Fence → ℕ → ℕ → Fence
with_point fence timeline value = record { values = slice_set fence.values (timeline - 1) (max (value_of fence.values timeline) value) }

-- at each index the greater of two values
unfoldable pub greater_of_each : List ℕ → List ℕ → List ℕ
greater_of_each [] _ = []
greater_of_each (v ∷ vs) [] = v ∷ vs
greater_of_each (v ∷ vs) (w ∷ ws) = max v w ∷ greater_of_each vs ws

-- the points of two fences
unfoldable pub merged : Fence → Fence → Fence
merged one other = record { values = greater_of_each one.values other.values }

-- a fence is signalled where each of its points is: the timeline has reached the value
abbrev pub IsSignalled : Fence → Seen → Type 0
IsSignalled fence seen = (t : ℕ) → 1 ≤ t → t ≤ 64 → value_of fence.values t ≤ value_of seen.values t

-- a merge is signalled exactly where both fences are
abbrev pub SignalledTogether : Fence → Fence → Fence → Type 0
SignalledTogether merge one other = (seen : Seen) → IsSignalled merge seen ↔ (IsSignalled one seen × IsSignalled other seen)

-- a fence with one point more is signalled exactly where the fence is and the point's timeline has reached its value
abbrev pub SignalledWith : Fence → Fence → ℕ → ℕ → Type 0
SignalledWith more fence timeline value = (seen : Seen) → IsSignalled more seen ↔ (IsSignalled fence seen × (value ≤ value_of seen.values timeline))

-- the first value, from this timeline on, that its timeline has not reached
unfoldable pub open_from : ℕ → List ℕ → List ℕ → Option (ℕ × ℕ)
open_from t [] _ = None
open_from t (v ∷ vs) [] = None
open_from t (v ∷ vs) (s ∷ ss) = if nat_le v s then open_from (t + 1) vs ss else Some (t, v)

-- the point of the lowest timeline that is not signalled
unfoldable pub first_open_of : Fence → Seen → Option (ℕ × ℕ)
first_open_of fence seen = open_from 1 fence.values seen.values

-- this is that point, or none where there is no such point
abbrev pub IsFirstOpen : Fence → Seen → Option (TimelineId × ℕ) → Type 0
IsFirstOpen fence seen point =
    MatchOption point (first_open_of fence seen ≡ None) (λ first. first_open_of fence seen ≡ Some ((first.0).0, first.1))
