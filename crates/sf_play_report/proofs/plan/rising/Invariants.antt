use Rattle.std.proofs.Common.{◌≡◌, ◌-◌}
use Rattle.law_played.specs.Runs.{rising}
use Rattle.sf_play_report.proofs.plan.rising.Given as goal

abbrev pub invariant-loop-number : goal.invariant-loop-number
invariant-loop-number g l = l.list.items ≡ rising g.T.Numbered.number_of (l.number - 1) l.items
