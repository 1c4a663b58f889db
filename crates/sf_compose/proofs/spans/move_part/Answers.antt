use Rattle.std.proofs.Common.{◌+◌, ◌-◌, ◌*◌, arith}
use Rattle.std.proofs.lemmas.List.Edits.{length-between}
use Rattle.sf_base.specs.Bytes.{pixel_in}
use Rattle.sf_compose.proofs.SpanLemmas.{PaintsSpan-part, moved_back, pixel_between}
use Rattle.sf_compose.proofs.spans.move_part.Goals as goal

pub returns : goal.returns
returns c = PaintsSpan-part _ _ c.args.to (c.args.to + c.args.count) (λ i under. pixel_in c.args.pixels.now (c.args.from + (i - c.args.to))) (omega arith) c.requires.room c.move_row.ensures.len
    (λ k low.
    let long = length-between c.args.frame.now (4 * c.args.to) (4 * (c.args.to + c.args.count)) c.requires.room in
    rw (moved_back c.args.to k, c.move_row.ensures.after) (pixel_between c.args.pixels.now c.args.from (c.args.from + c.args.count) k (omega (arith, low, long))))
