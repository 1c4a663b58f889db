use Rattle.std.proofs.Common.{subst}
use Rattle.sf_actor_steps.specs.sf_actor.Plain.{PlainOf, taken_in}
use Rattle.sf_actor_set.specs.Compositing.{GoesOnDesk}
use Rattle.sf_actor_set.proofs.CompositingLemmas.{turns_on}
use Rattle.sf_actor_set.proofs.compositing.vsync_at.Goals as goal

pub returns-clause-goes : goal.returns-clause-goes
returns-clause-goes g c =
    let desk : PlainOf g.row.B.Denot = record { queues = c.desk.inside.queues.items; arrivals = c.desk.inside.arrivals; times = c.desk.inside.times; turns = c.desk.inside.turns; tells = c.desk.inside.tells } in
    subst (λ (d : PlainOf g.row.B.Denot). GoesOnDesk (taken_in d.arrivals) d (record desk { turns = c.vsync_through.new.turns })) c.desk.view_is (turns_on desk c.vsync_through.new.turns c.vsync_through.ensures.goes)

pub returns-clause-decides : goal.returns-clause-decides
returns-clause-decides g c = rw (← c.desk.view_is) c.vsync_through.ensures.decides

pub returns-clause-stops : goal.returns-clause-stops
returns-clause-stops g c = rw (← c.desk.view_is) c.vsync_through.ensures.stops
