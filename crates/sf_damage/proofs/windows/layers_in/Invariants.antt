use Rattle.std.proofs.Common.{◌≡◌, take}
use Rattle.std.specs.List.{filter}
use Rattle.sf_damage.specs.Damage.{meets_clip}
use Rattle.sf_damage.proofs.windows.layers_in.Given as goal

abbrev pub invariant-loop-drawn : goal.invariant-loop-drawn
invariant-loop-drawn l = l.kept.items ≡ filter (meets_clip l.window) (take l.drawn-index l.layers)
