use Rattle.std.proofs.Common.{length}
use Rattle.sf_tree.proofs.ShowLemmas.{Outranks-tree, shows-is}
use Rattle.sf_view.proofs.AncestryLemmas.{ancestry-is}
use Rattle.law_images.proofs.laws.steps_of_a_tree_suffice.Goals as goal

pub returns-clause-shows : goal.returns-clause-shows
returns-clause-shows c = λ of. shows-is of.tree of.layer (length of.tree) (Outranks-tree of.tree of.place of.layer of.is.distinct of.is.tied of.is.no_cycle of.here)

pub returns-clause-above : goal.returns-clause-above
returns-clause-above c = λ of. ancestry-is of.tree of.layer (length of.tree) (Outranks-tree of.tree of.place of.layer of.is.distinct of.is.tied of.is.no_cycle of.here)
