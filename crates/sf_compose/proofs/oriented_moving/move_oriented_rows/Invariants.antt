use Rattle.std.proofs.Common.{ℕ, Bool, pos}
use Rattle.sf_base.specs.Paint.{painted}
use Rattle.sf_base.specs.declared.pixel.Rgba.{Rgba}
use Rattle.sf_damage.specs.sf_view.Contents.{source_of}
use Rattle.sf_compose.specs.Frames.{is_in_box}
use Rattle.sf_compose.specs.inner.Painting.{Paints}
use Rattle.sf_compose.specs.inner.Orientations.{pixel_shown}
use Rattle.sf_compose.proofs.oriented_moving.move_oriented_rows.Given as goal

abbrev pub invariant-loop-y : goal.invariant-loop-y
invariant-loop-y l = (opaque : Bool) (below : ℕ → ℕ → Rgba → Rgba) →
    Paints l.band.width l.band.top (is_in_box l.area.left l.area.right l.area.top l.y)
    (λ x y under. painted (below x y under) (source_of opaque (pixel_shown l.picture l.oriented.crop l.oriented.orient l.oriented.place (pos x) (pos y))) 255)
    l.fn.frame l.frame
