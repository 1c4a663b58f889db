use Rattle.std.proofs.Common.{◌≡◌, map, take}
use Rattle.law_played.specs.Telling.{arrival_recorded}
use Rattle.sf_play_report.proofs.closing.arrivals_record.Given as goal

abbrev pub invariant-loop-entry : goal.invariant-loop-entry
invariant-loop-entry l = l.list.items ≡ map arrival_recorded (take l.entry-index l.fn.entries)
