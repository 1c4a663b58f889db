use Rattle.std.proofs.Common.{◌≡◌, ◌≤◌, ◌-◌, ◌%◌}
use Rattle.sf_rows.specs.Pixels.{column_pixel, PicksColumns}
use Rattle.sf_rows.proofs.columns.pick_columns.Given as goal

abbrev pub invariant-loop-k : goal.invariant-loop-k
invariant-loop-k l = (l.k % 4 ≡ 0) × (l.k ≤ l.rows.length) × PicksColumns l.rows.start l.rows.apart l.src (column_pixel l.columns.first l.columns.step l.columns.back 0) l.k l.fn.dst l.dst

abbrev pub decreases-loop-k : goal.decreases-loop-k
decreases-loop-k l = l.rows.length - l.k
