use Rattle.std.proofs.Common.{◌≤◌, length, subst}
use Rattle.sf_live_threads.specs.sf_tree.Trees.{TreeOf}
use Rattle.sf_live_compositor.proofs.behind.tell_layers.Goals as goal

pub returns-clause-few : goal.returns-clause-few
returns-clause-few g c = subst (λ (t : TreeOf). length t.layers ≤ t.most) c.tree.ensures.tree c.layers-layers.ensures.kept.few

pub returns-clause-buffers : goal.returns-clause-buffers
returns-clause-buffers g c = λ alive. let kept = c.tree.ensures.kept alive in record { stands = kept.stands; crops = kept.crops }
