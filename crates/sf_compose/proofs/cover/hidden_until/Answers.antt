use Rattle.std.proofs.Common.{◌≡◌, ◌≤◌, true, arith, map}
use Rattle.sf_compose.specs.Frames.{is_in_box}
use Rattle.sf_compose.specs.inner.Cover.{HidesGround}
use Rattle.sf_compose.specs.inner.Painting.{is_in_area}
use Rattle.sf_compose.proofs.CoverLemmas.{around, HidesGround-beside, HidesGround-fewer, HidesGround-none, in_wider}
use Rattle.sf_compose.proofs.PaintLemmas.{box_without_sides}
use Rattle.sf_compose.proofs.cover.hidden_until.Goals as goal

pub loop-x-init : goal.loop-x-init
loop-x-init g c = (
  c.requires.within,
  omega arith,
  HidesGround-none _ _ _ _ (λ p q. box_without_sides c.args.area.left c.args.area.left c.args.y c.args.area.bottom p q (omega arith)),
)

pub loop-x-preserved : goal.loop-x-preserved
loop-x-preserved g c =
    let here : is_in_area c.in-Some.part c.loop-x.x c.args.y ≡ true = rw c.in-Some.is at c.hidden_around.ensures.here in
    let right : c.in-Some.part.right ≤ c.args.area.right = rw c.in-Some.is at c.hidden_around.ensures.right in
    let bottom : c.in-Some.part.bottom ≤ c.args.area.bottom = rw c.in-Some.is at c.hidden_around.ensures.bottom in
    let hidden : HidesGround (is_in_area c.in-Some.part) (map g.C.Pixels.picture c.args.composition.now.contents.now) c.args.composition.now.view.now.drawn c.args.composition.now.sources.now = rw c.in-Some.is at c.hidden_around.ensures.hidden in
    let at = around c.in-Some.part c.loop-x.x c.args.y here in (
      omega (arith, c.loop-x.invariant.0, at.3),
      omega (arith, c.loop-x.invariant.1),
      HidesGround-beside c.args.area.left c.loop-x.x c.args.y c.loop-x.bottom _ c.in-Some.part _ _ _ (omega arith) (omega arith) here c.loop-x.invariant.2 hidden,
    )

pub returns-clause-hidden : goal.returns-clause-hidden
returns-clause-hidden g c =
    HidesGround-fewer _ (is_in_box c.args.area.left c.args.area.right c.args.y c.loop-x.bottom) _ _ _ c.loop-x.invariant.2
    (λ p q t. in_wider c.args.area.left c.args.area.right c.loop-x.x c.args.y c.loop-x.bottom c.loop-x.bottom p q (omega (arith, c.loop-x-test.false)) (omega arith) t)
