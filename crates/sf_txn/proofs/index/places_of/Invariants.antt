use Rattle.std.proofs.Common.{take}
use Rattle.sf_txn.specs.Places.{HasPlaces}
use Rattle.sf_txn.proofs.index.places_of.Given as goal

abbrev pub invariant-loop-place : goal.invariant-loop-place
invariant-loop-place l = HasPlaces (take l.place l.fn.ops) l.places
