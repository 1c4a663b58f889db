use Rattle.std.proofs.Common.{ℕ, pos, ◌+ℤ◌, neg_ℤ}
use Rattle.sf_base.specs.Paint.{painted}
use Rattle.sf_base.specs.declared.pixel.Rgba.{Rgba}
use Rattle.sf_damage.specs.sf_picture.Pixels.{pixel_at}
use Rattle.sf_damage.specs.sf_view.Contents.{unsigned}
use Rattle.sf_compose.specs.Frames.{is_in_box}
use Rattle.sf_compose.specs.inner.Painting.{Paints}
use Rattle.sf_compose.proofs.layer.copy_crop.Given as goal

abbrev pub invariant-loop-y : goal.invariant-loop-y
invariant-loop-y l = (ground : ℕ → ℕ → Rgba) →
    Paints l.band.width l.band.top (is_in_box l.area.left l.area.right l.area.top l.y)
    (λ x y under. painted (ground x y) (pixel_at l.picture (unsigned ((pos x +ℤ neg_ℤ l.crop.place.0) +ℤ l.crop.rect.x)) (unsigned ((pos y +ℤ neg_ℤ l.crop.place.1) +ℤ l.crop.rect.y))) 255)
    l.fn.frame l.frame
