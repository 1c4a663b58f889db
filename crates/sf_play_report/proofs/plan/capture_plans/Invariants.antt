use Rattle.std.proofs.Common.{◌≡◌, map, take}
use Rattle.law_played.specs.Frames.{capture_plan}
use Rattle.sf_play_report.proofs.plan.capture_plans.Given as goal

abbrev pub invariant-loop-capture : goal.invariant-loop-capture
invariant-loop-capture l = l.plans.items ≡ map capture_plan (take l.capture-index l.captures)
