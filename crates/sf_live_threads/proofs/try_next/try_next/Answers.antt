use Rattle.std.proofs.Common.{sym, subst}
use Rattle.sf_actor_steps.specs.sf_actor.Scripts.{picture_at}
use Rattle.sf_actor_steps.specs.Actors.{IsKept}
use Rattle.sf_live_seats.specs.Shared.{SharedOf}
use Rattle.sf_live_seats.specs.Shared as shared
use Rattle.sf_live_threads.proofs.WalkLemmas.{tried_ok}
use Rattle.sf_live_threads.proofs.try_next.try_next.Goals as goal

pub try_step-stepped-requires-clause-kept : goal.try_step-stepped-requires-clause-kept
try_step-stepped-requires-clause-kept g c = λ unspent.
    subst (λ (d : SharedOf g.row.B.Denot). IsKept g.B.TableName.table (picture_at c.args.pictures.now) (shared.home_of d) c.args.seated_actor.actor (shared.view_of d)) (sym c.new-desk.ensures.is)
    c.requires.kept

pub returns : goal.returns
returns g c =
    let t = c.try_step-stepped.ensures in
    let s = c.into_parts-seats.ensures in
    tried_ok _ _ _ c.args.seated_actor _ c.new-desk.result c.try_step-stepped.new.desk c.try_step-stepped.result c.requires c.new-desk.ensures.is c.new-desk.ensures.home t.home s.seats s.own
    t.script (c.ready-gates.ensures c.requires.gates) t.steps
