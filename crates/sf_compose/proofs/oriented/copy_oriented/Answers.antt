use Rattle.std.proofs.Common.{arith, false}
use Rattle.sf_damage.specs.sf_view.Image.{opaque_black}
use Rattle.sf_compose.specs.Frames.{is_in_box}
use Rattle.sf_compose.proofs.BegunLemmas.{Spares-painted, Spares-then}
use Rattle.sf_compose.proofs.PaintLemmas.{box_without_sides, Paints-none}
use Rattle.sf_compose.proofs.OrientationLemmas.{beside_block, beside_sides, block_point, Paints-block, Paints-sides, Spares-wider}
use Rattle.sf_compose.proofs.oriented.copy_oriented.Goals as goal

pub loop-left-init : goal.loop-left-init
loop-left-init c = (omega arith, omega arith, λ ground. Paints-none _ _ _ _ _ (λ a b. box_without_sides c.args.area.left c.args.area.left c.args.area.top c.args.area.bottom a b (omega arith)))

pub copy_oriented_rows-requires-clause-inside : goal.copy_oriented_rows-requires-clause-inside
copy_oriented_rows-requires-clause-inside c = λ x y t. c.requires.inside x y (block_point c.args.area c.columns_from-block.result x y (omega (arith, c.columns_from-block.ensures.left, c.loop-left.invariant.0)) c.columns_from-block.ensures.right c.columns_from-block.ensures.top c.columns_from-block.ensures.bottom t)

pub copy_oriented_rows-requires-clause-few : goal.copy_oriented_rows-requires-clause-few
copy_oriented_rows-requires-clause-few c = omega (arith, c.columns_from-block.ensures.few, c.columns_at_once-columns.ensures.few)

pub copy_oriented_rows-requires-clause-within : goal.copy_oriented_rows-requires-clause-within
copy_oriented_rows-requires-clause-within c = record {
  wide = omega (arith, c.columns_from-block.ensures.right, c.requires.within.wide);
  low = omega (arith, c.columns_from-block.ensures.top, c.requires.within.low);
  high = omega (arith, c.columns_from-block.ensures.bottom, c.requires.within.high);
}

pub loop-left-preserved : goal.loop-left-preserved
loop-left-preserved c = (
  omega (arith, c.columns_from-block.ensures.more, c.loop-left.invariant.0),
  c.columns_from-block.ensures.right,
  λ ground. Paints-block _ _ c.args.area c.columns_from-block.result c.loop-left.left _ _ _ _ c.columns_from-block.ensures.left c.columns_from-block.ensures.top c.columns_from-block.ensures.bottom c.loop-left.invariant.0 c.columns_from-block.ensures.more (c.loop-left.invariant.2 ground) (c.copy_oriented_rows.ensures.copied c.if-not-copy_oriented_rows.false ground),
)

pub returns-clause-copied : goal.returns-clause-copied
returns-clause-copied c = λ yes ground. Paints-sides _ _ c.args.area.left c.loop-left.left c.args.area.right c.args.area.top c.args.area.bottom _ _ _ (c.loop-left.invariant.2 ground) (omega (arith, c.loop-left.invariant.1, c.loop-left-test.false))

pub returns-clause-spared : goal.returns-clause-spared
returns-clause-spared c =
    Spares-painted _ _ (is_in_box c.args.area.left c.loop-left.left c.args.area.top c.args.area.bottom) _ _ _ _ (c.loop-left.invariant.2 (λ x y. opaque_black))
    (λ a b t. beside_sides c.args.area.left c.args.area.right c.args.area.top c.args.area.bottom c.loop-left.left a b c.loop-left.invariant.1 t)

pub returns-then-not-copy_oriented_rows-clause-spared : goal.returns-then-not-copy_oriented_rows-clause-spared
returns-then-not-copy_oriented_rows-clause-spared c =
    Spares-then _ _ _ _ _ _
    (Spares-painted _ _ (is_in_box c.args.area.left c.loop-left.left c.args.area.top c.args.area.bottom) _ _ _ _ (c.loop-left.invariant.2 (λ x y. opaque_black))
    (λ a b t. beside_sides c.args.area.left c.args.area.right c.args.area.top c.args.area.bottom c.loop-left.left a b c.loop-left.invariant.1 t))
    (Spares-wider _ _ _ _ _ _ c.copy_oriented_rows.ensures.spared
    (λ a b t. beside_block c.args.area c.columns_from-block.result a b (omega (arith, c.columns_from-block.ensures.left, c.loop-left.invariant.0)) c.columns_from-block.ensures.right c.columns_from-block.ensures.top c.columns_from-block.ensures.bottom t))

pub returns-then-is_solid-clause-spared : goal.returns-then-is_solid-clause-spared
returns-then-is_solid-clause-spared c =
    Spares-painted _ _ _ _ _ _ _ (c.move_oriented.ensures false (λ x y under. opaque_black)) (λ a b t. t)

pub returns-then-is_solid-clause-copied : goal.returns-then-is_solid-clause-copied
returns-then-is_solid-clause-copied c = λ yes below. c.move_oriented.ensures false (λ x y under. below x y)
