use Rattle.std.proofs.Common.{arith}
use Rattle.sf_compose.proofs.PaintLemmas.{box_without_sides, Paints-none}
use Rattle.sf_compose.proofs.OrientationLemmas.{block_point, Paints-block, Paints-sides}
use Rattle.sf_compose.proofs.oriented_moving.move_oriented.Goals as goal

pub loop-left-init : goal.loop-left-init
loop-left-init c = (
  omega arith,
  omega (arith, c.requires.across),
  λ opaque below. Paints-none _ _ _ _ _ (λ a b. box_without_sides c.args.area.left c.args.area.left c.args.area.top c.args.area.bottom a b (omega arith)),
)

pub move_block-requires-clause-inside : goal.move_block-requires-clause-inside
move_block-requires-clause-inside c = λ x y t. c.requires.inside x y (block_point c.args.area c.columns_from-block.result x y (omega (arith, c.columns_from-block.ensures.left, c.loop-left.invariant.0)) c.columns_from-block.ensures.right c.columns_from-block.ensures.top c.columns_from-block.ensures.bottom t)

pub move_block-requires-clause-across : goal.move_block-requires-clause-across
move_block-requires-clause-across c = omega (arith, c.columns_from-block.ensures.left, c.columns_from-block.ensures.more)

pub move_block-requires-clause-down : goal.move_block-requires-clause-down
move_block-requires-clause-down c = omega (arith, c.columns_from-block.ensures.top, c.columns_from-block.ensures.bottom, c.requires.down)

pub move_block-requires-clause-within : goal.move_block-requires-clause-within
move_block-requires-clause-within c = record {
  wide = omega (arith, c.columns_from-block.ensures.right, c.requires.within.wide);
  low = omega (arith, c.columns_from-block.ensures.top, c.requires.within.low);
  high = omega (arith, c.columns_from-block.ensures.bottom, c.requires.within.high);
}

pub loop-left-preserved : goal.loop-left-preserved
loop-left-preserved c = (
  omega (arith, c.columns_from-block.ensures.more, c.loop-left.invariant.0),
  c.columns_from-block.ensures.right,
  λ opaque below. Paints-block _ _ c.args.area c.columns_from-block.result c.loop-left.left _ _ _ _ c.columns_from-block.ensures.left c.columns_from-block.ensures.top c.columns_from-block.ensures.bottom c.loop-left.invariant.0 c.columns_from-block.ensures.more (c.loop-left.invariant.2 opaque below) (c.move_block.ensures opaque below),
)

pub returns : goal.returns
returns c = λ opaque below. Paints-sides _ _ c.args.area.left c.loop-left.left c.args.area.right c.args.area.top c.args.area.bottom _ _ _ (c.loop-left.invariant.2 opaque below) (omega (arith, c.loop-left.invariant.1, c.loop-left-test.false))
