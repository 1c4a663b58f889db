use Rattle.std.proofs.Common.{refl}
use Rattle.sf_rows.specs.inner.Channels.{colour_part}
use Rattle.sf_rows.proofs.RowLemmas.{below_sixteen}
use Rattle.sf_rows.proofs.lanes.four_times.Goals as goal

pub returns-clause-each : goal.returns-clause-each
unfolding colour_part
returns-clause-each c = below_sixteen _ refl refl refl refl refl refl refl refl refl refl refl refl refl refl refl refl
