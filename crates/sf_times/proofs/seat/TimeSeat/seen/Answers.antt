use Rattle.std.proofs.Common.{rules, arith}
use Rattle.sf_times.proofs.Keeps.{loads}
use Rattle.sf_times.proofs.seat.TimeSeat.seen.Goals as goal

pub load-requires : goal.load-requires
load-requires c = let wide = c.table.invariant in let range = c.requires.range in (
  search rules,
  omega arith,
  loads _ _ _ _ (omega arith) c.self.invariant.0,
)

pub invariant_of-self : goal.invariant_of-self
invariant_of-self c = (search rules, search rules, c.load.ensures.2.4)

pub returns-clause-told : goal.returns-clause-told
returns-clause-told c = c.load.ensures.2.4
