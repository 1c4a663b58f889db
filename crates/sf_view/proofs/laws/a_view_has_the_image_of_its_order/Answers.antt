use Rattle.sf_view.proofs.ImageLemmas.{view_image-order, view_image-same}
use Rattle.sf_view.proofs.laws.a_view_has_the_image_of_its_order.Goals as goal

pub returns-clause-in_order : goal.returns-clause-in_order
returns-clause-in_order c = view_image-order

pub returns-clause-of_tree : goal.returns-clause-of_tree
returns-clause-of_tree c = view_image-same
