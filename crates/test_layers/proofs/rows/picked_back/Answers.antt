use Rattle.std.proofs.Common.{arith, length, ℕ, zero, suc, ◌≡◌, ◌≤◌, ◌-◌, ◌/◌, pos, ◌+ℤ◌, ◌*ℤ◌}
use lib.IntN.{negsuc}
use Rattle.std.proofs.lemmas.Int.{ints}
use Rattle.sf_rows.specs.Pixels.{picked}
use Rattle.test_layers.proofs.rows.picked_back.Goals as goal

back : (n k : ℕ) → k ≤ n → pos n +ℤ (negsuc 0 *ℤ pos k) ≡ pos (n - k)
back n zero h = omega (arith, ints)
back n (suc k) h = omega (arith, ints, h)

pub pick_row-requires-clause-inside : goal.pick_row-requires-clause-inside
unfolding picked
pick_row-requires-clause-inside c = λ k low. let e = back (length c.args.source.now / 4 - 1) k (omega (arith, low, c.deref_mut.ensures.len, c.in_ok-row.ensures.len)) in record { low = omega (arith, ints, e, low); high = omega (arith, ints, e, low) }
