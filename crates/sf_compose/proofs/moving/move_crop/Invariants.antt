use Rattle.std.proofs.Common.{◌≡◌, ◌+◌, ◌-◌, ◌*◌, ℕ, Bool, pos, ◌+ℤ◌, neg_ℤ}
use Rattle.sf_base.specs.Paint.{painted}
use Rattle.sf_base.specs.declared.pixel.Rgba.{Rgba}
use Rattle.sf_damage.specs.sf_picture.Pixels.{pixel_at}
use Rattle.sf_damage.specs.sf_view.Contents.{source_of, unsigned}
use Rattle.sf_compose.specs.Frames.{is_in_box}
use Rattle.sf_compose.specs.inner.Painting.{Paints}
use Rattle.sf_compose.proofs.moving.move_crop.Given as goal

abbrev pub invariant-loop : goal.invariant-loop
invariant-loop l = ((opaque : Bool) (below : ℕ → ℕ → Rgba → Rgba) →
    Paints l.band.width l.band.top (is_in_box l.fn.area.left l.fn.area.right l.fn.area.top l.counter)
    (λ x y under. painted (below x y under) (source_of opaque (pixel_at l.picture (unsigned ((pos x +ℤ neg_ℤ l.fn.crop.place.0) +ℤ l.fn.crop.rect.x)) (unsigned ((pos y +ℤ neg_ℤ l.fn.crop.place.1) +ℤ l.fn.crop.rect.y)))) 255)
    l.fn.frame l.frame
    ) × (l.from ≡ unsigned ((pos l.counter +ℤ neg_ℤ l.fn.crop.place.1) +ℤ l.fn.crop.rect.y) * l.picture.width + unsigned ((pos l.fn.area.left +ℤ neg_ℤ l.fn.crop.place.0) +ℤ l.fn.crop.rect.x))
    × (l.to ≡ (l.counter - l.band.top) * l.band.width + l.fn.area.left)
