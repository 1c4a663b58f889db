use Rattle.sf_tree.proofs.NoCycles.{none_is_above_itself, none_reaches_itself}
use Rattle.sf_tree.proofs.laws.no_layer_reaches_itself.Goals as goal

pub returns-clause-parents : goal.returns-clause-parents
returns-clause-parents c = none_is_above_itself

pub returns-clause-all : goal.returns-clause-all
returns-clause-all c = none_reaches_itself
