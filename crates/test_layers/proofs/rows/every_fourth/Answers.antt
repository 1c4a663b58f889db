use Rattle.std.proofs.Common.{arith}
use Rattle.std.proofs.lemmas.Int.{ints}
use Rattle.sf_rows.specs.Pixels.{picked}
use Rattle.test_layers.proofs.rows.every_fourth.Goals as goal

pub pick_row-requires-clause-inside : goal.pick_row-requires-clause-inside
unfolding picked
pick_row-requires-clause-inside c = λ k low. record { low = omega (arith, ints, low); high = omega (arith, ints, low, c.deref_mut.ensures.len, c.in_ok-row.ensures.len) }
