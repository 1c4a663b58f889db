use Rattle.std.proofs.Common.{sym, subst}
use Rattle.sf_actor.specs.sf_script_scene.declared.step.Step.{Step}
use Rattle.sf_actor.specs.Scripts.{picture_at}
use Rattle.sf_actor_steps.specs.Acting.{Acts}
use Rattle.sf_actor_steps.specs.declared.tried.Tried.{Tried}
use Rattle.sf_actor_steps.proofs.LeavingLemmas.{ok-map}
use Rattle.sf_actor_steps.proofs.bindings.Bindings.act.Goals as goal

pub returns-in-PDetach-clause-acts : goal.returns-in-PDetach-clause-acts
returns-in-PDetach-clause-acts g c =
    let home = g.D.Desk.home c.args.desk.now in
    let bindings = c.args.self.now in
    let old = g.D.Desk.view c.args.desk.now in
    let new = g.D.Desk.view c.detach.new.desk in
    ok-map _ _ c.detach.result
    (λ (came_to : Tried) tries. subst (λ (s : Step). Acts (picture_at c.args.pictures.now) home bindings.by.0 c.args.step_number s bindings c.detach.new.self old new came_to) (sym c.in-PDetach.is) (tries (picture_at c.args.pictures.now)))
    c.detach.ensures.tries

pub returns-in-CDetach-clause-acts : goal.returns-in-CDetach-clause-acts
returns-in-CDetach-clause-acts g c =
    let home = g.D.Desk.home c.args.desk.now in
    let bindings = c.args.self.now in
    let old = g.D.Desk.view c.args.desk.now in
    let new = g.D.Desk.view c.detach-in-CDetach.new.desk in
    ok-map _ _ c.detach-in-CDetach.result
    (λ (came_to : Tried) tries. subst (λ (s : Step). Acts (picture_at c.args.pictures.now) home bindings.by.0 c.args.step_number s bindings c.detach-in-CDetach.new.self old new came_to) (sym c.in-CDetach.is) (tries (picture_at c.args.pictures.now)))
    c.detach-in-CDetach.ensures.tries
