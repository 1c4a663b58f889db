use Rattle.std.proofs.Common.{◌≡◌, take, filter}
use Rattle.sf_output_shown.specs.Cuts.{is_under}
use Rattle.sf_output_shown.proofs.below.under.Given as goal

abbrev pub invariant-loop-index : goal.invariant-loop-index
invariant-loop-index l = l.kept.items ≡ filter (is_under l.tree.layers l.fn.id) (take l.index l.tree.layers)
