use Rattle.std.proofs.Common.{ℕ, ap, arith, pos, refl, sym}
use Rattle.sf_base.specs.Paint.{painted}
use Rattle.sf_damage.specs.sf_view.Contents.{source_of}
use Rattle.sf_compose.specs.inner.Orientations.{pixel_shown}
use Rattle.sf_compose.proofs.PaintLemmas.{box_without_sides, Paints-none, Paints-same}
use Rattle.sf_compose.proofs.OrientationLemmas.{block_point, Paints-block, Paints-sides}
use Rattle.sf_compose.proofs.oriented.paint_oriented.Goals as goal

pub loop-left-init : goal.loop-left-init
loop-left-init c = (omega arith, omega arith, Paints-none _ _ _ _ _ (λ a b. box_without_sides c.args.area.left c.args.area.left c.args.area.top c.args.area.bottom a b (omega arith)))

pub paint_oriented_rows-requires-clause-inside : goal.paint_oriented_rows-requires-clause-inside
paint_oriented_rows-requires-clause-inside c = λ x y t. c.requires.inside x y (block_point c.args.area c.columns_from-block.result x y (omega (arith, c.columns_from-block.ensures.left, c.loop-left.invariant.0)) c.columns_from-block.ensures.right c.columns_from-block.ensures.top c.columns_from-block.ensures.bottom t)

pub paint_oriented_rows-requires-clause-few : goal.paint_oriented_rows-requires-clause-few
paint_oriented_rows-requires-clause-few c = omega (arith, c.columns_from-block.ensures.few, c.columns_at_once-columns.ensures.few)

pub paint_oriented_rows-requires-clause-within : goal.paint_oriented_rows-requires-clause-within
paint_oriented_rows-requires-clause-within c = record {
  wide = omega (arith, c.columns_from-block.ensures.right, c.requires.within.wide);
  low = omega (arith, c.columns_from-block.ensures.top, c.requires.within.low);
  high = omega (arith, c.columns_from-block.ensures.bottom, c.requires.within.high);
}

pub loop-left-preserved : goal.loop-left-preserved
loop-left-preserved c = (
  omega (arith, c.columns_from-block.ensures.more, c.loop-left.invariant.0),
  c.columns_from-block.ensures.right,
  Paints-block _ _ c.args.area c.columns_from-block.result c.loop-left.left _ _ _ _ c.columns_from-block.ensures.left c.columns_from-block.ensures.top c.columns_from-block.ensures.bottom c.loop-left.invariant.0 c.columns_from-block.ensures.more c.loop-left.invariant.2 c.paint_oriented_rows.ensures,
)

pub returns : goal.returns
returns c = Paints-sides _ _ c.args.area.left c.loop-left.left c.args.area.right c.args.area.top c.args.area.bottom _ _ _ c.loop-left.invariant.2 (omega (arith, c.loop-left.invariant.1, c.loop-left-test.false))

pub returns-then-is_solid : goal.returns-then-is_solid
returns-then-is_solid c = Paints-same _ _ _ _ _ _ _ _ (c.move_oriented.ensures c.args.oriented.opaque (λ x y under. under)) (λ x y. refl)
    (λ x y under t. ap (λ (alpha : ℕ). painted under (source_of c.args.oriented.opaque (pixel_shown c.args.picture.now c.args.oriented.crop c.args.oriented.orient c.args.oriented.place (pos x) (pos y))) alpha) (sym c.if-oriented-eq255.true))
