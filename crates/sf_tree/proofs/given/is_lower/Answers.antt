use Rattle.std.proofs.Common.{is_some, ap, sym, ◌∙◌}
use Rattle.std.proofs.lemmas.Bool.{ltb-true}
use Rattle.sf_tree.proofs.Lookups.{has_layer-place}
use Rattle.sf_tree.proofs.given.is_lower.Goals as goal

pub returns-in-Some-clause-there : goal.returns-in-Some-clause-there
returns-in-Some-clause-there c = λ t. has_layer-place c.args.layers.now c.args.id ∙ ap is_some (sym c.in-Some.ensures.place)

pub returns-in-Some-clause-lower : goal.returns-in-Some-clause-lower
returns-in-Some-clause-lower c = λ t. rw (sym c.in-Some.ensures.place) (ltb-true _ _ t)
