use Rattle.std.proofs.Common.{◌≡◌, map, take}
use Rattle.law_played.specs.Frames.{hit_plan}
use Rattle.sf_play_report.proofs.plan.hit_plans.Given as goal

abbrev pub invariant-loop-hit : goal.invariant-loop-hit
invariant-loop-hit l = l.plans.items ≡ map hit_plan (take l.hit-index l.hits)
