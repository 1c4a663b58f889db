use Rattle.sf_picture.specs.Solid.{AreSolid}
use Rattle.sf_picture.proofs.solid.are_all_solid.Given as goal

abbrev pub invariant-loop-at : goal.invariant-loop-at
invariant-loop-at l = AreSolid l.at l.bytes
