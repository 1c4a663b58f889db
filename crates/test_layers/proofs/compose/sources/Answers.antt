use Rattle.test_layers.proofs.DrawnPictures.{sources-more}
use Rattle.test_layers.proofs.compose.sources.Goals as goal

pub loop-layer-preserved : goal.loop-layer-preserved
loop-layer-preserved c =
    rw c.in-Ok.ensures.items
    (sources-more c.args.contents.now c.args.drawn.now c.loop-layer.layer-index _ c.loop-layer.list.items c.in-Some.place c.loop-layer-test.true c.loop-layer.invariant c.in-Some.ensures)
