use Rattle.std.proofs.Common.{arith}
use Rattle.sf_compose.specs.inner.Painting.{is_in_area}
use Rattle.sf_compose.proofs.CoverLemmas.{HidesGround-below, HidesGround-fewer, HidesGround-none, in_wider}
use Rattle.sf_compose.proofs.FrameLemmas.{box_without_height}
use Rattle.sf_compose.proofs.cover.is_hidden.Goals as goal

pub loop-y-init : goal.loop-y-init
loop-y-init g c = HidesGround-none _ _ _ _ (λ p q. box_without_height c.args.area.left c.args.area.right c.args.area.top p q)

pub loop-y-preserved : goal.loop-y-preserved
loop-y-preserved g c = HidesGround-below c.args.area.left c.args.area.right c.args.area.top c.loop-y.y c.hidden_until-next.result _ _ _ c.loop-y.invariant c.hidden_until-next.ensures.hidden

pub returns : goal.returns
returns g c = λ yes.
    HidesGround-fewer _ (is_in_area c.args.area) _ _ _ c.loop-y.invariant
    (λ p q t. in_wider c.args.area.left c.args.area.right c.args.area.right c.args.area.top c.args.area.bottom c.loop-y.y p q (omega arith) (omega (arith, c.loop-y-test.false)) t)
