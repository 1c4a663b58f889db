use Rattle.std.proofs.Common.{◌≡◌, map, take}
use Rattle.law_played.specs.Frames.{display_plan}
use Rattle.sf_play_report.proofs.plan.display_plans.Given as goal

abbrev pub invariant-loop-display : goal.invariant-loop-display
invariant-loop-display l = l.plans.items ≡ map display_plan (take l.display-index l.displays)
