use Rattle.std.proofs.Common.{◌+◌, ◌≤◌, length, refl, arith}
use Rattle.sf_rows.proofs.RowLemmas.{pixels_more, channel_at}
use Rattle.sf_rows.proofs.row.row_whole_blocks.Goals as goal

pub loop-dst-init : goal.loop-dst-init
loop-dst-init c = c.row_solid_blocks-at.ensures

pub loop-dst-preserved : goal.loop-dst-preserved
loop-dst-preserved c =
    let so = c.loop-dst.invariant in
    let room : c.loop-dst.at + 16 ≤ length c.args.dst.now = omega (arith, c.loop-dst-test.true, so.painted.len) in
    pixels_more _ _ _ _ _ so room c.four_whole_pixels-painted.ensures.len
    (λ k h. rw (c.four_whole_pixels-painted.ensures.each k h) (channel_at _ _ _ _ 16 _ so.painted so.whole refl k h))
