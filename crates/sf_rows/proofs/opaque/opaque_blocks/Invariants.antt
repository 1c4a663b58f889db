use Rattle.std.proofs.Common.{length, ◌-◌}
use Rattle.sf_rows.specs.inner.Channels.{PaintedPixels, opaque_channel}
use Rattle.sf_rows.proofs.opaque.opaque_blocks.Given as goal

abbrev pub invariant-loop-dst : goal.invariant-loop-dst
invariant-loop-dst l = PaintedPixels l.fn.dst (opaque_channel l.fn.dst l.src l.alpha) l.at l.dst

abbrev pub decreases-loop-dst : goal.decreases-loop-dst
decreases-loop-dst l = length l.dst - l.at
