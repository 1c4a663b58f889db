use Rattle.std.proofs.Common.{ap, refl}
use Rattle.law_draws.specs.sf_actor.Makers.{BufferOf}
use Rattle.law_draws.specs.sf_surface.Reading.{PlainLease}
use Rattle.law_draws.proofs.JoinedDraws.{draws_stand}
use Rattle.law_draws.specs.sf_actor.Scripts.{picture_at}
use Rattle.law_threads.proofs.RightsAtTiedJoin.{ledger_join, rights_join}
use Rattle.law_threads.proofs.rights.rights_stand_at_a_join_that_is_tied.Goals as goal

abbrev at : PlainLease → BufferOf
at plain = record { queue = plain.queue.0; number = plain.held.number }

pub returns-clause-ledger : goal.returns-clause-ledger
returns-clause-ledger g c = λ of.
    let join = of.join in
    ledger_join _ join.scene join.table join.period join.most join.locks join.last join.ends join.desk join.joins (record { end = λ l. refl; next_end = λ l. refl; ends = λ eye. refl }) (λ one other same. ap at same) of.tied

pub returns-clause-makers : goal.returns-clause-makers
returns-clause-makers g c = λ of.
    let join = of.join in
    (rights_join _ join.scene join.table join.period join.most join.locks join.last join.ends join.desk join.joins (record { end = λ l. refl; next_end = λ l. refl; ends = λ eye. refl }) (λ one other same. ap at same) of.tied).makers

pub returns-clause-draws : goal.returns-clause-draws
returns-clause-draws g c = λ of keep.
    let join = of.join in
    draws_stand join.scene _ _ _ join.joins.limits keep.actors (picture_at join.scene.pictures) join.table.slots join.last.handler (ledger_join _ join.scene join.table join.period join.most join.locks join.last join.ends join.desk join.joins (record { end = λ l. refl; next_end = λ l. refl; ends = λ eye. refl }) (λ one other same. ap at same) of.tied) keep.over keep.exact
    (rights_join _ join.scene join.table join.period join.most join.locks join.last join.ends join.desk join.joins (record { end = λ l. refl; next_end = λ l. refl; ends = λ eye. refl }) (λ one other same. ap at same) of.tied).placed
