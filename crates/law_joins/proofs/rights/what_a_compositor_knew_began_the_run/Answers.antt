use Rattle.law_joins.proofs.Stamps.{joined_fronts}
use Rattle.law_joins.proofs.rights.what_a_compositor_knew_began_the_run.Goals as goal

pub returns : goal.returns
returns g c = λ join. joined_fronts _ join.scene join.table join.period join.most join.locks join.last join.ends join.desk join.joins
