use Rattle.std.proofs.Common.{◌∙◌, ◌-◌, ◌≤◌, length, arith, sym}
use Rattle.sf_mirror.proofs.NamingLemmas.{few_taken, one_further}
use Rattle.sf_mirror.proofs.naming.least_free.Goals as goal

pub loop-number-init : goal.loop-number-init
loop-number-init c =
    let low = c.requires.low in
    let few : c.args.from - 1 ≤ length c.args.taken.now = few_taken (c.args.from - 1) c.args.taken.now (λ k least high. c.requires.below k least (omega (arith, low, high))) in
    record { low = low; high = omega (arith, low, few); below = c.requires.below }

pub loop-number-preserved : goal.loop-number-preserved
loop-number-preserved c =
    let below = one_further c.args.taken.now c.loop-number.number c.loop-number.invariant.below (sym (c.is_free.ensures c.args.taken.now c.requires.marks) ∙ c.loop-number-test.true) in
    let few = few_taken c.loop-number.number c.args.taken.now below in
    record { low = omega arith; high = omega (arith, few); below = below }
