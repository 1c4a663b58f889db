use Rattle.std.proofs.Common.{◌+◌, ◌-◌, ℕ, arith, pos, ap}
use Rattle.sf_base.specs.Paint.{painted}
use Rattle.sf_damage.specs.sf_view.Contents.{source_of}
use Rattle.sf_compose.specs.Frames.{is_in_box}
use Rattle.sf_compose.specs.inner.Orientations.{pixel_shown}
use Rattle.sf_compose.proofs.FrameLemmas.{box_higher, box_without_height}
use Rattle.sf_compose.proofs.PaintLemmas.{its_point, Paints-ended, Paints-none, Paints-row, Paints-then, rows_apart}
use Rattle.sf_compose.proofs.SpanLemmas.{moved_back}
use Rattle.sf_compose.proofs.oriented_moving.move_oriented_rows.Goals as goal

pub loop-y-init : goal.loop-y-init
loop-y-init c = λ opaque below. Paints-none _ _ _ _ _ (λ a b. box_without_height c.args.area.left c.args.area.right c.args.area.top a b)

pub move_oriented_row-requires-clause-inside : goal.move_oriented_row-requires-clause-inside
move_oriented_row-requires-clause-inside c = λ x from to. c.requires.inside x c.loop-y.y (its_point c.args.area.left c.args.area.right c.args.area.top c.args.area.bottom x c.loop-y.y from to (omega arith) (omega arith))

pub loop-y-preserved : goal.loop-y-preserved
loop-y-preserved c = λ opaque below.
    Paints-then _ _ (is_in_box c.args.area.left c.args.area.right c.args.area.top c.loop-y.y) (is_in_box c.args.area.left c.args.area.right c.loop-y.y (c.loop-y.y + 1)) _ _ _ _ _ (c.loop-y.invariant opaque below)
    (Paints-row _ _ c.args.area.left c.args.area.right c.loop-y.y c.row_start-start.result _ _ _ _ c.row_start-start.ensures (omega arith) (omega arith) c.requires.within.wide
    (c.move_oriented_row.ensures opaque (λ i under. below (i - c.row_start-start.result) c.loop-y.y under))
    (λ x under from to. ap (λ (column : ℕ). painted (below column c.loop-y.y under) (source_of opaque (pixel_shown c.args.picture.now c.args.oriented.crop c.args.oriented.orient c.args.oriented.place (pos column) (pos c.loop-y.y))) 255) (moved_back c.row_start-start.result x)))
    (λ a b. box_higher c.args.area.left c.args.area.right c.args.area.top c.loop-y.y a b (omega arith))
    (λ a b t. rows_apart c.args.area.left c.args.area.right c.args.area.top c.loop-y.y a b t)

pub returns : goal.returns
returns c = λ opaque below. Paints-ended _ _ c.args.area.left c.args.area.right c.args.area.top c.loop-y.y c.args.area.bottom _ _ _ (c.loop-y.invariant opaque below) (omega arith)
