use Rattle.std.proofs.Common.{◌≡◌, false, refl, arith}
use Rattle.sf_tree.specs.inner.Search.{leads_to}
use Rattle.sf_tree.proofs.UnreachedLayers.{all_more, all_passed}
use Rattle.sf_tree.proofs.cycles.any_leads_to.Goals as goal

pub loop-layer-preserved : goal.loop-layer-preserved
loop-layer-preserved c =
    all_more (λ layer. leads_to c.args.along c.args.id layer ≡ false) c.args.layers.now c.loop-layer.layer-index _ c.loop-layer-test.true c.loop-layer.invariant (c.if-leads_to.ensures refl)

pub returns : goal.returns
returns c = λ e. all_passed (λ layer. leads_to c.args.along c.args.id layer ≡ false) c.args.layers.now c.loop-layer.layer-index (omega arith) c.loop-layer.invariant
