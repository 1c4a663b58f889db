use Rattle.std.proofs.Common.{◌≡◌, map, take}
use Rattle.law_played.specs.Telling.{call_recorded}
use Rattle.sf_play_report.proofs.closing.calls_of.Given as goal

abbrev pub invariant-loop-entry : goal.invariant-loop-entry
invariant-loop-entry l = l.list.items ≡ map call_recorded (take l.entry-index l.fn.entries)
