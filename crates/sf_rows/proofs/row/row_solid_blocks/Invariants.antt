use Rattle.std.proofs.Common.{length, ◌-◌}
use Rattle.sf_rows.specs.inner.Channels.{PaintedPixels, row_channel}
use Rattle.sf_rows.proofs.row.row_solid_blocks.Given as goal

abbrev pub invariant-loop-dst : goal.invariant-loop-dst
invariant-loop-dst l = PaintedPixels l.fn.dst (row_channel l.fn.dst l.src 255) l.at l.dst

abbrev pub decreases-loop-dst : goal.decreases-loop-dst
decreases-loop-dst l = length l.dst - l.at
