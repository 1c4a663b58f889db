-- The order of a play: the picks of the scene's order one at a time, then rounds.
use Rattle.std.specs.Prelude.{ℕ, ◌+◌, nat_lt, false, if◌then◌else◌, List, length, Option, Some, None, slice_get}
use Rattle.sf_script_scene.specs.declared.declarations.Pick.{Pick}
use Rattle.sf_play.specs.declared.place.Place.{Place}
use Rattle.sf_play.specs.declared.place.Place.TheVariants as at

-- behind a pick whose actions are all done comes the next one, and behind the last one the first round
abbrev pub behind : List Pick → ℕ → Place
behind order place = if nat_lt (place + 1) (length order) then at.Order (place + 1) 0 else at.Round 0 false

abbrev pub settled_at : List Pick → ℕ → ℕ → Option Pick → Place
settled_at order place done None = at.Round 0 false
settled_at order place done (Some pick) = if nat_lt done pick.times then at.Order place done else behind order place

-- where the next action is done
abbrev pub settled : List Pick → Place → Place
settled order (at.Order place done) = settled_at order place done (slice_get order place)
settled order other = other
