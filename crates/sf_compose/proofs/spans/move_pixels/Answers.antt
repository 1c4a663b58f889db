use Rattle.std.proofs.Common.{◌-◌, refl}
use Rattle.sf_base.specs.Bytes.{pixel_in}
use Rattle.sf_compose.proofs.SpanLemmas.{PaintsSpan-part, moved_back}
use Rattle.sf_compose.proofs.spans.move_pixels.Goals as goal

pub returns : goal.returns
returns c = PaintsSpan-part _ _ _ _ (λ i under. pixel_in c.args.row.now (i - c.args.start)) c.requires.ordered c.requires.within c.copy_from_slice.ensures.len
    (λ k low. rw (moved_back c.args.start k, c.copy_from_slice.ensures.after) refl)
