use Rattle.law_joins.proofs.PlayerAtJoin.{actors, called, exact, over}
use Rattle.law_joins.proofs.laws.actors_keep_what_they_keep_at_the_join.Goals as goal

pub returns-clause-actors : goal.returns-clause-actors
returns-clause-actors g c = λ join. actors _ join.scene g.B.TableName.table join.period join.most join.locks join.last join.ends join.desk join.is

pub returns-clause-over : goal.returns-clause-over
returns-clause-over g c = λ join. over _ join.scene g.B.TableName.table join.period join.most join.locks join.last join.ends join.desk join.is

pub returns-clause-exact : goal.returns-clause-exact
returns-clause-exact g c = λ join. exact _ join.scene g.B.TableName.table join.period join.most join.locks join.last join.ends join.desk join.is

pub returns-clause-called : goal.returns-clause-called
returns-clause-called g c = λ join. called _ join.scene g.B.TableName.table join.period join.most join.locks join.last join.ends join.desk join.is
