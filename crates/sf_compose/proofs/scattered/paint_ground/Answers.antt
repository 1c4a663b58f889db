use Rattle.std.proofs.Common.{pos, subst}
use Rattle.sf_base.specs.Geometry.{covers}
use Rattle.sf_base.specs.Paint.{painted}
use Rattle.sf_base.specs.declared.geometry.Rect.{Rect}
use Rattle.sf_damage.specs.sf_region.Canonical.{IsDisjoint}
use Rattle.sf_damage.specs.sf_view.Image.{opaque_black}
use Rattle.sf_compose.proofs.SeenLemmas.{Paints-part}
use Rattle.sf_compose.proofs.scattered.paint_ground.Goals as goal

abbrev nowhere : Rect
nowhere = record { x = pos 0; y = pos 0; width = 0; height = 0 }

pub loop-rect-preserved : goal.loop-rect-preserved
unfolding covers
loop-rect-preserved c =
    let same = c.rects-rect-items.ensures.same in
    Paints-part c.args.band.width c.args.band.top c.args.area c.cut.result c.args.part.now c.loop-rect.rect-index nowhere
    (λ x y under. painted under opaque_black 255)
    c.args.frame.now c.loop-rect.frame c.paint_area.new.frame (subst IsDisjoint same c.rects-rect-items.ensures.disjoint) (rw same at c.loop-rect-test.true) c.loop-rect.invariant c.paint_area.ensures (rw same at c.cut.ensures.points)
