use Rattle.std.proofs.Common.{◌≡◌, ◌<◌, length}
use Rattle.test_threads.proofs.intake_run.send_three.Given as goal

-- it is the same client, which has sent at the steps before at most once each
abbrev pub invariant-loop-step : goal.invariant-loop-step
invariant-loop-step g l = (l.sender.intake ≡ l.intake) × (l.sender.by ≡ l.fn.sender.by) × (length l.sender.sent < l.step)
