use Rattle.std.proofs.Common.{◌≡◌, to_z, of_z, w32, arith, rules}
use Rattle.std.proofs.lemmas.Int.{ints, clamps}
use Rattle.sf_damage.proofs.BoundsLemmas.{within_more}
use Rattle.sf_damage.proofs.bounds.span_of_both.Goals as goal

pub count_from-requires-clause-from : goal.count_from-requires-clause-from
count_from-requires-clause-from c = omega (arith, ints, clamps, c.min-first.ensures.value, c.requires.from, c.requires.other_from)

pub count_from-requires-clause-to : goal.count_from-requires-clause-to
count_from-requires-clause-to c = omega (arith, ints, clamps, c.max-end.ensures.value, c.requires.to, c.requires.other_to)

pub returns-clause-from : goal.returns-clause-from
returns-clause-from c = omega (arith, ints, clamps, c.min-first.ensures.value, c.requires.from, c.requires.other_from)

pub returns-clause-to : goal.returns-clause-to
returns-clause-to c = omega (arith, ints, clamps, c.count_from.ensures, c.max-end.ensures.value, c.requires.to, c.requires.other_to)

pub returns-clause-one : goal.returns-clause-one
returns-clause-one c = λ at t.
    let fits : to_z w32 (of_z w32 c.min-first.result) ≡ c.min-first.result = search rules in
    rw fits (within_more c.args.start c.min-first.result at c.args.extent c.count_from.result (omega (arith, ints, c.min-first.ensures.self_bound)) (omega (arith, ints, c.count_from.ensures, c.max-end.ensures.self_bound)) t)

pub returns-clause-other : goal.returns-clause-other
returns-clause-other c = λ at t.
    let fits : to_z w32 (of_z w32 c.min-first.result) ≡ c.min-first.result = search rules in
    rw fits (within_more c.args.other c.min-first.result at c.args.many c.count_from.result (omega (arith, ints, c.min-first.ensures.other_bound)) (omega (arith, ints, c.count_from.ensures, c.max-end.ensures.other_bound)) t)
