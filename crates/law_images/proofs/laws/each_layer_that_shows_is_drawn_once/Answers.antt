use Rattle.law_images.proofs.DrawnOnce.{drawn_once}
use Rattle.law_images.proofs.laws.each_layer_that_shows_is_drawn_once.Goals as goal

pub returns : goal.returns
returns c = λ of. drawn_once of.most of.tree of.place of.layer of.is of.here
