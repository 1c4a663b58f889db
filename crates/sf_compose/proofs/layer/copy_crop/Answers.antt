use Rattle.std.proofs.Common.{◌+◌, ◌-◌, ◌*◌, ◌∙◌, ℕ, arith, ap, false}
use Rattle.sf_base.specs.Bytes.{pixel_in}
use Rattle.sf_base.specs.Paint.{painted}
use Rattle.sf_base.specs.declared.pixel.Rgba.{Rgba}
use Rattle.sf_damage.specs.sf_view.Image.{opaque_black}
use Rattle.sf_compose.specs.Frames.{is_in_box}
use Rattle.sf_compose.proofs.BegunLemmas.{beside_row, beside_rows, Spares-painted, Spares-then}
use Rattle.sf_compose.proofs.CropLemmas.{both_left, both_right, shown_in_row}
use Rattle.sf_compose.proofs.FrameLemmas.{box_higher, box_without_height}
use Rattle.sf_compose.proofs.PaintLemmas.{its_point, Paints-ended, Paints-none, Paints-row, Paints-then, rows_apart}
use Rattle.sf_compose.proofs.SpanLemmas.{moved_back}
use Rattle.sf_compose.proofs.layer.copy_crop.Goals as goal

pub loop-y-init : goal.loop-y-init
loop-y-init c = λ ground. Paints-none _ _ _ _ _ (λ a b. box_without_height c.args.area.left c.args.area.right c.args.area.top a b)

pub crop_row-pixels-requires-clause-first : goal.crop_row-pixels-requires-clause-first
crop_row-pixels-requires-clause-first c = both_left _ _ (c.requires.inside c.args.area.left c.loop-y.y (its_point c.args.area.left c.args.area.right c.args.area.top c.args.area.bottom c.args.area.left c.loop-y.y (omega arith) (omega arith) (omega arith) (omega arith)))

pub crop_row-pixels-requires-clause-last : goal.crop_row-pixels-requires-clause-last
crop_row-pixels-requires-clause-last c = both_left _ _ (c.requires.inside (c.args.area.right - 1) c.loop-y.y (its_point c.args.area.left c.args.area.right c.args.area.top c.args.area.bottom (c.args.area.right - 1) c.loop-y.y (omega arith) (omega arith) (omega arith) (omega arith)))

pub crop_row-pixels-requires-clause-down : goal.crop_row-pixels-requires-clause-down
crop_row-pixels-requires-clause-down c = both_right _ _ (c.requires.inside c.args.area.left c.loop-y.y (its_point c.args.area.left c.args.area.right c.args.area.top c.args.area.bottom c.args.area.left c.loop-y.y (omega arith) (omega arith) (omega arith) (omega arith)))

pub copy_pixels-requires-clause-same : goal.copy_pixels-requires-clause-same
copy_pixels-requires-clause-same c = omega (arith, c.crop_row-pixels.ensures.size)

pub loop-y-preserved : goal.loop-y-preserved
loop-y-preserved c = λ ground.
    Paints-then _ _ (is_in_box c.args.area.left c.args.area.right c.args.area.top c.loop-y.y) (is_in_box c.args.area.left c.args.area.right c.loop-y.y (c.loop-y.y + 1)) _ _ _ _ _ (c.loop-y.invariant ground)
    (Paints-row _ _ c.args.area.left c.args.area.right c.loop-y.y c.row_start-row.result _ _ _ _ c.row_start-row.ensures (omega arith) (omega arith) c.requires.within.wide
    (c.copy_pixels.ensures.copied c.if-not-copy_pixels.false (λ i. ground (i - c.row_start-row.result) c.loop-y.y))
    (λ x under from to.
    ap (λ (column : ℕ). painted (ground column c.loop-y.y) (pixel_in c.crop_row-pixels.result.now ((c.row_start-row.result + x) - (c.row_start-row.result + c.args.area.left))) 255) (moved_back c.row_start-row.result x)
    ∙ ap (λ (pixel : Rgba). painted (ground x c.loop-y.y) pixel 255) (shown_in_row c.args.picture.now c.args.crop c.args.area.left c.args.area.right c.loop-y.y c.row_start-row.result x _ from to c.crop_row-pixels.ensures.pixels)))
    (λ a b. box_higher c.args.area.left c.args.area.right c.args.area.top c.loop-y.y a b (omega arith))
    (λ a b t. rows_apart c.args.area.left c.args.area.right c.args.area.top c.loop-y.y a b t)

pub returns-clause-copied : goal.returns-clause-copied
returns-clause-copied c = λ yes ground. Paints-ended _ _ c.args.area.left c.args.area.right c.args.area.top c.loop-y.y c.args.area.bottom _ _ _ (c.loop-y.invariant ground) (omega arith)

pub returns-then-not-copy_pixels-clause-spared : goal.returns-then-not-copy_pixels-clause-spared
returns-then-not-copy_pixels-clause-spared c =
    Spares-then _ _ _ _ _ _
    (Spares-painted _ _ (is_in_box c.args.area.left c.args.area.right c.args.area.top c.loop-y.y) _ _ _ _ (c.loop-y.invariant (λ x y. opaque_black))
    (λ a b t. beside_rows c.args.area.left c.args.area.right c.args.area.top c.args.area.bottom c.loop-y.y a b (omega arith) t))
    (Spares-painted _ _ (is_in_box c.args.area.left c.args.area.right c.loop-y.y (c.loop-y.y + 1)) _ _ _ _
    (Paints-row _ _ c.args.area.left c.args.area.right c.loop-y.y c.row_start-row.result
    (λ x y under. pixel_in c.copy_pixels.new.frame ((y - c.args.band.top) * c.args.band.width + x)) (λ i under. pixel_in c.copy_pixels.new.frame i) _ _ c.row_start-row.ensures (omega arith) (omega arith) c.requires.within.wide
    c.copy_pixels.ensures.touched (λ x under from to. ap (λ (start : ℕ). pixel_in c.copy_pixels.new.frame (start + x)) c.row_start-row.ensures))
    (λ a b t. beside_row c.args.area.left c.args.area.right c.args.area.top c.args.area.bottom c.loop-y.y a b (omega arith) (omega arith) t))

pub returns-clause-spared : goal.returns-clause-spared
returns-clause-spared c =
    Spares-painted _ _ (is_in_box c.args.area.left c.args.area.right c.args.area.top c.loop-y.y) _ _ _ _ (c.loop-y.invariant (λ x y. opaque_black))
    (λ a b t. beside_rows c.args.area.left c.args.area.right c.args.area.top c.args.area.bottom c.loop-y.y a b (omega arith) t)

pub returns-then-is_solid-clause-spared : goal.returns-then-is_solid-clause-spared
returns-then-is_solid-clause-spared c =
    Spares-painted _ _ _ _ _ _ _ (c.move_crop.ensures false (λ x y under. opaque_black)) (λ a b t. t)

pub returns-then-is_solid-clause-copied : goal.returns-then-is_solid-clause-copied
returns-then-is_solid-clause-copied c = λ yes below. c.move_crop.ensures false (λ x y under. below x y)
