use Rattle.std.proofs.Common.{◌+◌, arith}
use Rattle.sf_compose.proofs.FourRowLemmas.{in_box, Paints-lower}
use Rattle.sf_compose.proofs.FrameLemmas.{box_without_height}
use Rattle.sf_compose.proofs.PaintLemmas.{box_without_sides, Paints-ended, Paints-none}
use Rattle.sf_compose.proofs.oriented_moving.move_fours.Goals as goal

pub returns-then-area : goal.returns-then-area
returns-then-area c = λ opaque below. Paints-none _ _ _ _ _ (λ a b. box_without_sides c.args.area.left c.args.area.right c.args.area.top c.args.area.bottom a b (omega arith))

pub loop-top-init : goal.loop-top-init
loop-top-init c = (
  omega arith,
  c.requires.down,
  c.requires.rows,
  λ opaque below. Paints-none _ _ _ _ _ (λ a b. box_without_height c.args.area.left c.args.area.right c.args.area.top a b),
)

pub move_four_rows-requires-clause-inside : goal.move_four_rows-requires-clause-inside
move_four_rows-requires-clause-inside c = λ x y t.
    c.requires.inside x y (in_box c.args.area.left c.args.area.right c.args.area.top c.args.area.bottom c.args.area.left c.args.area.right c.loop-top.top (c.loop-top.top + 4) x y (omega arith) (omega arith) c.loop-top.invariant.0 (omega (arith, c.loop-top.invariant.1, c.loop-top.invariant.2, c.loop-top-test.true)) t)

pub loop-top-preserved : goal.loop-top-preserved
loop-top-preserved c = (
  omega (arith, c.loop-top.invariant.0),
  omega (arith, c.loop-top.invariant.1, c.loop-top.invariant.2, c.loop-top-test.true),
  omega (arith, c.loop-top.invariant.2),
  λ opaque below. Paints-lower _ _ c.args.area.left c.args.area.right c.args.area.top c.loop-top.top (c.loop-top.top + 4) _ _ _ _ c.loop-top.invariant.0 (omega arith) (c.loop-top.invariant.3 opaque below) (c.move_four_rows.ensures opaque below),
)

pub returns : goal.returns
returns c = λ opaque below. Paints-ended _ _ c.args.area.left c.args.area.right c.args.area.top c.loop-top.top c.args.area.bottom _ _ _ (c.loop-top.invariant.3 opaque below) (omega (arith, c.loop-top.invariant.1, c.loop-top-test.false))
