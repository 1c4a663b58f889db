use Rattle.std.proofs.Common.{◌∙◌, sym}
use Rattle.sf_tree.proofs.Lookups.{number_twice}
use Rattle.sf_tree.proofs.given.layers_of.Goals as goal

pub returns-then-has-clause-none : goal.returns-then-has-clause-none
returns-then-has-clause-none c =
    let there = sym c.has.ensures ∙ c.if-has.true in number_twice _ _ _ c.loop-layer-test.true (rw c.loop-layer.invariant at there)
