use Rattle.std.proofs.Common.{◌≡◌, ◌+◌, drop}
use Rattle.sf_tree.specs.Changes.{after_from}
use Rattle.sf_tree.specs.inner.Journal.{GoesBack}
use Rattle.sf_tree.proofs.apply.apply_all.Given as goal

abbrev pub invariant-loop-operation : goal.invariant-loop-operation
invariant-loop-operation l = record {
  back : GoesBack l.journal l.layers l.initial.layers;
  same : after_from l.most (l.operation-index + 1) l.layers (drop l.operation-index l.ops) ≡ after_from l.most 1 l.initial.layers l.ops;
  counted : l.number ≡ l.operation-index;
}
