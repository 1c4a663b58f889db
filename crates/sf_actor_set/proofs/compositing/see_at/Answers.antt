use Rattle.std.proofs.Common.{subst}
use Rattle.sf_base.specs.Points.{points_from}
use Rattle.sf_actor_steps.specs.sf_actor.Plain.{PlainOf, taken_in}
use Rattle.sf_actor_set.specs.Compositing.{GoesOnDesk}
use Rattle.sf_actor_set.proofs.CompositingLemmas.{looks_on}
use Rattle.sf_actor_set.proofs.compositing.see_at.Goals as goal

pub returns-clause-goes : goal.returns-clause-goes
returns-clause-goes g c =
    let desk : PlainOf g.row.B.Denot = record { queues = c.desk.inside.queues.items; arrivals = c.desk.inside.arrivals; times = c.desk.inside.times; turns = c.desk.inside.turns; tells = c.desk.inside.tells } in
    subst (λ (d : PlainOf g.row.B.Denot). GoesOnDesk (taken_in d.arrivals) d (record desk { times = c.see_all.new.self })) c.desk.view_is
    (looks_on desk c.see_all.new.self (points_from 1 c.see_all.result.values) c.see_all.ensures.shown)
