-- What a fence keeps: nothing, or a block with the value of each timeline.
use Rattle.std.specs.Prelude.{◌≡◌, Box, Option, None, Some, length}
use Rattle.sf_base.specs.Fences.{Fence, fence_from, no_points}
use Rattle.sf_base.specs.declared.fences.Points.{Points}

-- the fence that kept points make, none where none are kept
abbrev pub fence_of : {Z : Type 0} → Option (Box Points Z) → Fence
fence_of None = no_points
fence_of (Some points) = fence_from points.value.values

-- each of the 64 timelines has an index
pub record HasPlaces (fence : Fence) : Type 0 where
  pub places : length fence.values ≡ 64
