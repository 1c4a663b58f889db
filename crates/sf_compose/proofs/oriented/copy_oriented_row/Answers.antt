use Rattle.std.proofs.Common.{◌≡◌, ◌+◌, ◌-◌, ap, arith}
use Rattle.sf_base.specs.Paint.{painted}
use Rattle.sf_base.specs.declared.pixel.Rgba.{Rgba}
use Rattle.sf_compose.proofs.SpanLemmas.{PaintsSpan-same}
use Rattle.sf_compose.proofs.oriented.copy_oriented_row.Goals as goal

pub returns-clause-copied : goal.returns-clause-copied
returns-clause-copied c = λ yes ground.
    PaintsSpan-same _ _ _ _ _ _ (c.copy_pixels.ensures.copied yes ground) (λ i under from to.
    let place : c.args.row.left + (i - (c.args.row.start + c.args.row.left)) ≡ i - c.args.row.start = omega (arith, from) in
    ap (λ (pixel : Rgba). painted (ground i) pixel 255) (rw place at (c.pick_oriented.ensures.pixels (i - (c.args.row.start + c.args.row.left)) (omega (arith, from, to)))))
