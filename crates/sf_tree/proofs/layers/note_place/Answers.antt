use Rattle.sf_tree.proofs.Places.{IsIndexed-noted}
use Rattle.sf_tree.proofs.layers.note_place.Goals as goal

pub returns-in-Ok : goal.returns-in-Ok
returns-in-Ok c = IsIndexed-noted c.args.list.now c.args.place _ c.args.places.now c.insert.new.self c.requires.indexed c.requires.inside (λ q. c.in-Ok.ensures.updates.0 q)
