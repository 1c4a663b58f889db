-- A seat at the turns as a compositor's eye.
use Rattle.std.specs.Prelude.{◌≡◌}
use Rattle.sf_actor.specs.sf_surface.Reading.{eye_mark}
use Rattle.sf_turns.specs.Views.{SeatView}
use Rattle.sf_actor.specs.Known.{AreAmong, CountsRise}

-- a seat goes on as the same one: it keeps the turns that were left, and of no buffer it has seen fewer
pub record SeatGoesOn (old new : SeatView) : Type 0 where
  pub mark : eye_mark new ≡ eye_mark old
  pub left : AreAmong old.leaves new.leaves
  pub counts : CountsRise old.seen new.seen
