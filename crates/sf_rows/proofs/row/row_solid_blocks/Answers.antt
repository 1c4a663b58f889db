use Rattle.std.proofs.Common.{◌∙◌, ◌+◌, ◌≤◌, length, refl, arith}
use Rattle.std.proofs.lemmas.Simd.{length-chunk}
use lib.Lanes.{chunk}
use Rattle.sf_rows.proofs.RowLemmas.{pixels_none, pixels_more, channel_at}
use Rattle.sf_rows.proofs.row.row_solid_blocks.Goals as goal

pub loop-dst-init : goal.loop-dst-init
loop-dst-init c = pixels_none _ _

pub loop-dst-preserved : goal.loop-dst-preserved
loop-dst-preserved c =
    let so = c.loop-dst.invariant in
    let room : c.loop-dst.at + 16 ≤ length c.args.dst.now = omega (arith, c.loop-dst-test.true, so.painted.len) in
    pixels_more _ _ _ _ _ so room (length-chunk c.loop-dst.at 16 c.args.src.now (omega (arith, room, c.requires)))
    (λ k h. c.are_solid.ensures c.if-not-are_solid.false (chunk c.loop-dst.at 16 c.loop-dst.dst) k h ∙ channel_at _ _ _ _ 16 _ so.painted so.whole refl k h)
