use Rattle.std.proofs.Common.{arith}
use Rattle.std.proofs.lemmas.Bool.Decides.{nat_tests}
use Rattle.std.proofs.lemmas.Int.{ints}
use Rattle.sf_base.proofs.geometry.clipped.Goals as goal

pub returns-clause-same : goal.returns-clause-same
returns-clause-same c = λ at low.
    let a = c.count_below-first.ensures.same at low in
    let b = c.count_below-end.ensures.same at low in
    grind (arith, ints, nat_tests, a, b)
