use Rattle.sf_tree.specs.Index.{IsIndexed}
use Rattle.sf_tree.proofs.layers.note_places.Given as goal

abbrev pub invariant-loop-place : goal.invariant-loop-place
invariant-loop-place l = IsIndexed l.list l.places
