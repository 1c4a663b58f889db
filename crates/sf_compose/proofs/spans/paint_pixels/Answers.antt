use Rattle.std.proofs.Common.{◌-◌, false, true}
use Rattle.sf_base.specs.Paint.{painted}
use Rattle.sf_base.specs.Bytes.{pixel_in}
use Rattle.sf_rows.specs.Pixels.{opaque_pixel}
use Rattle.sf_damage.specs.sf_view.Contents.{source_of}
use Rattle.sf_compose.proofs.SpanLemmas.{PaintsSpan-part, moved_back}
use Rattle.sf_compose.proofs.spans.paint_pixels.Goals as goal

pub returns-then-opaque : goal.returns-then-opaque
unfolding opaque_pixel
returns-then-opaque c =
    rw c.if-opaque.true
    (PaintsSpan-part _ _ _ _ (λ i under. painted under (source_of true (pixel_in c.args.row.now (i - c.args.start))) c.args.alpha) c.requires.ordered c.requires.within c.blend_row_opaque.ensures.len
    (λ k low. rw (moved_back c.args.start k) (c.blend_row_opaque.ensures.each_pixel k low)))

pub returns-else-opaque : goal.returns-else-opaque
returns-else-opaque c =
    rw c.if-opaque.false
    (PaintsSpan-part _ _ _ _ (λ i under. painted under (source_of false (pixel_in c.args.row.now (i - c.args.start))) c.args.alpha) c.requires.ordered c.requires.within c.blend_row.ensures.len
    (λ k low. rw (moved_back c.args.start k) (c.blend_row.ensures.each_pixel k low)))
