use Rattle.std.proofs.Common.{◌≡◌, take}
use Rattle.std.specs.List.{filter}
use Rattle.sf_damage.specs.inner.Meeting.{meets}
use Rattle.sf_damage.proofs.shown.those_met.Given as goal

abbrev pub invariant-loop-other : goal.invariant-loop-other
invariant-loop-other l = l.met.items ≡ filter (λ other. meets other l.fn.rect) (take l.other-index l.fn.rects)
