use Rattle.std.proofs.Common.{◌≡◌, ◌-◌, ◌≤◌, length, drop}
use Rattle.sf_record_sums.specs.Steps.{after}
use Rattle.sf_record_sums.proofs.progress.advanced.Given as goal

-- where the bytes that are left lead
abbrev pub invariant-loop-done : goal.invariant-loop-done
invariant-loop-done l = record {
  within : l.done ≤ length l.piece;
  so_far : after l.progress (drop l.done l.piece) ≡ after l.fn.progress l.piece;
}

abbrev pub decreases-loop-done : goal.decreases-loop-done
decreases-loop-done l = length l.piece - l.done
