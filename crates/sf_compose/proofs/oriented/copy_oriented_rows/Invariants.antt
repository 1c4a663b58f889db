use Rattle.std.proofs.Common.{ℕ, pos}
use Rattle.sf_base.specs.Paint.{painted}
use Rattle.sf_base.specs.declared.pixel.Rgba.{Rgba}
use Rattle.sf_compose.specs.Frames.{is_in_box}
use Rattle.sf_compose.specs.inner.Painting.{Paints}
use Rattle.sf_compose.specs.inner.Orientations.{pixel_shown}
use Rattle.sf_compose.proofs.oriented.copy_oriented_rows.Given as goal

abbrev pub invariant-loop-y : goal.invariant-loop-y
invariant-loop-y l = (ground : ℕ → ℕ → Rgba) → Paints l.band.width l.band.top (is_in_box l.area.left l.area.right l.area.top l.y) (λ x y under. painted (ground x y) (pixel_shown l.picture l.oriented.crop l.oriented.orient l.oriented.place (pos x) (pos y)) 255) l.fn.frame l.frame
