use Rattle.std.proofs.Common.{◌≡◌}
use Rattle.std.specs.Vec.{vec_len}
use Rattle.sf_tree.specs.inner.Journal.{back, CanGoBack}
use Rattle.sf_tree.proofs.journal.take_all_back.Given as goal

abbrev pub invariant-loop-undo : goal.invariant-loop-undo
invariant-loop-undo l = CanGoBack l.changes.items l.layers × (back l.changes.items l.layers ≡ back l.initial.changes.items l.initial.layers)

abbrev pub decreases-loop-undo : goal.decreases-loop-undo
decreases-loop-undo l = vec_len l.changes
