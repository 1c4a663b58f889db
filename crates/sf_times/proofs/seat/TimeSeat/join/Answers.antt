use Rattle.std.proofs.Common.{rules, ap, ◌∙◌, arith}
use Rattle.sf_times.proofs.Keeps.{audits, joins}
use Rattle.sf_times.specs.Views.{SeatView}
use Rattle.sf_times.proofs.seat.TimeSeat.join.Goals as goal

pub join_seat-requires : goal.join_seat-requires
join_seat-requires c = let wide = c.table.invariant in (
  search rules,
  search rules,
  c.other.invariant.1,
  omega arith,
  joins _ _ _ _ (ap (λ (v : SeatView). v.knows.is_first) c.self.view_is ∙ c.requires.first) c.self.invariant.0 c.other.invariant.0,
)

pub load-requires : goal.load-requires
load-requires c = let wide = c.table.invariant in (
  search rules,
  omega arith,
  audits _ _ _ (search rules),
)

pub invariant_of-self : goal.invariant_of-self
invariant_of-self c = (search rules, search rules, c.load.ensures.2.1)

pub returns-clause-told : goal.returns-clause-told
returns-clause-told c = c.load.ensures.2.1
