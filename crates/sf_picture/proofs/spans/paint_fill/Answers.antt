use Rattle.std.proofs.Common.{◌≡◌, ℕ, ◌<◌, pos, nat_le, nat_lt, ◌&&◌, arith, rules, subst}
use Rattle.std.proofs.lemmas.Int.{to_z-of_z}
use mir.Syntax.{w32}
use mir.Val.{SFits}
use Rattle.sf_base.specs.Geometry.{is_within}
use Rattle.sf_base.specs.declared.pixel.Rgba.{Rgba}
use Rattle.sf_picture.specs.inner.Spans.{PaintsFill}
use Rattle.sf_picture.proofs.SpanLemmas.{PaintsFill-rows, PaintsRows-more}
use Rattle.sf_picture.proofs.spans.paint_fill.Goals as goal

pub loop-y-preserved : goal.loop-y-preserved
loop-y-preserved c = PaintsRows-more c.loop-y.invariant c.clipped-left.ensures.limited c.clipped-left.ensures.ordered c.fill_span.ensures (omega arith)

pub returns : goal.returns
returns c =
    let x_fits : SFits w32 c.args.fill.now.rect.x = search rules in
    let y_fits : SFits w32 c.args.fill.now.rect.y = search rules in
    let across : (x : ℕ) → x < c.args.width → is_within c.args.fill.now.rect.x c.args.fill.now.rect.width (pos x) ≡ (nat_le c.clipped-left.result.0 x && nat_lt x c.clipped-left.result.1) = λ x in_row. simp to_z-of_z at (c.clipped-left.ensures.same x in_row) in
    let down : (y : ℕ) → y < c.args.height → is_within c.args.fill.now.rect.y c.args.fill.now.rect.height (pos y) ≡ (nat_le c.clipped-top.result.0 y && nat_lt y c.clipped-top.result.1) = λ y in_column. simp to_z-of_z at (c.clipped-top.ensures.same y in_column) in
    subst (λ (colour : Rgba). PaintsFill c.args.bytes.now c.loop-y.bytes c.args.width c.args.height c.args.fill.now.rect colour) c.seen_as-colour.ensures
    (PaintsFill-rows c.args.fill.now.rect c.loop-y.invariant (omega arith) across down)
