use Rattle.std.proofs.Common.{◌+◌, ◌≤◌, length, arith}
use Rattle.sf_rows.proofs.RowLemmas.{pixels_none, pixels_more, colour_at}
use Rattle.sf_rows.proofs.colour.colour_blocks.Goals as goal

pub loop-dst-init : goal.loop-dst-init
loop-dst-init c = pixels_none _ _

pub loop-dst-preserved : goal.loop-dst-preserved
loop-dst-preserved c =
    let so = c.loop-dst.invariant in
    let room : c.loop-dst.at + 16 ≤ length c.args.dst.now = omega (arith, c.loop-dst-test.true, so.painted.len) in
    pixels_more _ _ _ _ _ so room c.four_pixels-painted.ensures.len
    (λ k h. rw (c.four_pixels-painted.ensures.each k h) (colour_at _ _ _ _ _ _ so.painted so.whole c.requires.each k h))
