use Rattle.std.proofs.Common.{◌≡◌, map, take}
use Rattle.sf_commit.specs.Handlers.{source_of}
use Rattle.sf_commit.proofs.sources.sources.Given as goal

abbrev pub invariant-loop-one : goal.invariant-loop-one
invariant-loop-one g l = l.sources.items ≡ map (source_of l.fn.on) (take l.one-index l.fn.drawn)
