use Rattle.std.proofs.Common.{take}
use Rattle.std.specs.List.{AllZip}
use Rattle.sf_compose.specs.Readings.{IsReadable}
use Rattle.test_layers.proofs.compose.sources.Given as goal

abbrev pub invariant-loop-layer : goal.invariant-loop-layer
invariant-loop-layer l = AllZip (λ drawn source. IsReadable l.contents drawn.content source) (take l.layer-index l.drawn) l.list.items
