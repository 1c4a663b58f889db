use Rattle.std.proofs.Common.{◌≡◌, map, take}
use Rattle.law_played.specs.Seeing.{value_shown}
use Rattle.sf_play_report.proofs.commit.values_of.Given as goal

abbrev pub invariant-loop-timeline : goal.invariant-loop-timeline
invariant-loop-timeline l = l.values.items ≡ map (value_shown l.fn.seen) (take l.timeline-index l.fn.timelines)
