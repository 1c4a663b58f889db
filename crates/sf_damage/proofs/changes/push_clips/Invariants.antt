use Rattle.std.proofs.Common.{◌≡◌, ◌++◌, map, take}
use Rattle.sf_damage.specs.Damage.{clip_of}
use Rattle.sf_damage.proofs.changes.push_clips.Given as goal

abbrev pub invariant-loop-drawn : goal.invariant-loop-drawn
invariant-loop-drawn l = l.clips.items ≡ l.initial.clips.items ++ map clip_of (take l.drawn-index l.layers)
