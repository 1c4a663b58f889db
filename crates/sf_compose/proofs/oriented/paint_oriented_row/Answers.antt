use Rattle.std.proofs.Common.{◌≡◌, ◌+◌, ◌-◌, ap, arith}
use Rattle.sf_base.specs.Paint.{painted}
use Rattle.sf_base.specs.declared.pixel.Rgba.{Rgba}
use Rattle.sf_damage.specs.sf_view.Contents.{source_of}
use Rattle.sf_compose.proofs.SpanLemmas.{PaintsSpan-same}
use Rattle.sf_compose.proofs.oriented.paint_oriented_row.Goals as goal

pub returns : goal.returns
returns c =
    PaintsSpan-same _ _ _ _ _ _ c.paint_pixels.ensures (λ i under from to.
    let place : c.args.row.left + (i - (c.args.row.start + c.args.row.left)) ≡ i - c.args.row.start = omega (arith, from) in
    ap (λ (pixel : Rgba). painted under (source_of c.args.oriented.opaque pixel) c.args.oriented.alpha) (rw place at (c.pick_oriented.ensures.pixels (i - (c.args.row.start + c.args.row.left)) (omega (arith, from, to)))))
