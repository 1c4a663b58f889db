use Rattle.std.proofs.Common.{◌≡◌, map, take}
use Rattle.law_played.specs.Progress.{held_shown}
use Rattle.sf_play_report.proofs.closing.held_record.Given as goal

abbrev pub invariant-loop-entry : goal.invariant-loop-entry
invariant-loop-entry l = l.list.items ≡ map held_shown (take l.entry-index l.fn.held)
