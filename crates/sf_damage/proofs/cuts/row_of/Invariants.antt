use Rattle.std.proofs.Common.{◌≤◌}
use Rattle.sf_damage.proofs.cuts.row_of.Given as goal

abbrev pub invariant-loop-drawn : goal.invariant-loop-drawn
invariant-loop-drawn l = l.best ≤ l.window.height
