use Rattle.std.proofs.Common.{rules, sym, subst, arith}
use Rattle.sf_times.specs.declared.protocol.Knows.{Knows}
use Rattle.sf_times.specs.Seats.{IsAlone, OnlyOwnSignals}
use Rattle.sf_times.proofs.Keeps.{raises, still_told}
use Rattle.sf_times.proofs.seat.TimeSeat.signal.Goals as goal

pub fetch_max-requires : goal.fetch_max-requires
fetch_max-requires c = let wide = c.table.invariant in let range = c.requires.range in (
  search rules,
  omega arith,
  raises _ _ _ _ _ (omega arith) c.self.invariant.0,
)

-- after the signal the seat, alone, was shown its own signals alone
pub returns-clause-told : goal.returns-clause-told
returns-clause-told c = subst (λ (v : Knows). IsAlone v → OnlyOwnSignals v) (λ i. (sym c.fetch_max.ensures.2 i).0) (still_told c.self.inside.seat.me.0 _ c.self.invariant.2)

pub invariant_of-self : goal.invariant_of-self
invariant_of-self c = (search rules, search rules, subst (λ (v : Knows). IsAlone v → OnlyOwnSignals v) (λ i. (sym c.fetch_max.ensures.2 i).0) (still_told c.self.inside.seat.me.0 _ c.self.invariant.2))
