use Rattle.std.proofs.Common.{◌≤◌, Bool, arith, sym, subst}
use Rattle.sf_live_compositor.proofs.law_played_lemmas.LimitLemmas.{few_layers}
use Rattle.sf_script_scene.specs.Scene.{SceneValue}
use Rattle.sf_live_compositor.specs.sf_actor_set.Scripts.{permits_of}
use Rattle.sf_live.specs.Runs.{LiveEnded}
use Rattle.sf_live.proofs.StartOfRun.{may_run, of_scene}
use Rattle.sf_live.proofs.RunLemmas.{ended_early}
use Rattle.sf_live.proofs.scene.run_scene.Goals as goal

pub with_limit-requires-clause-most : goal.with_limit-requires-clause-most
with_limit-requires-clause-most g c =
    let same = c.most_layers.ensures in
    let few = few_layers c.scene.inside.version in
    omega (arith, same, few)

pub run_opened-requires-clause-starts : goal.run_opened-requires-clause-starts
run_opened-requires-clause-starts g c κs within = (
  c.args.scene,
  c.requires.begun.0,
  may_run g.B.TableName.table c.args.scene _ _ _ _ _ _ _ c.scene.view_is
      (c.in-Ok-open.ensures.opens (of_scene c.args.scene _ _ c.scene.view_is c.scene.invariant c.as_slice.ensures) c.requires.may.fresh
      (subst (λ (s : SceneValue). permits_of s.actors ≤ g.B.TableName.table.slots) (sym c.scene.view_is) c.requires.may.sized))
      c.in-Ok-with_limit.ensures c.most_layers.ensures c.in-Ok.ensures c.requires.begun.1,
)

pub returns : goal.returns
returns g c = λ start begun.
    subst (λ (tells : Bool). LiveEnded tells c.args.scene c.run_opened.result start (g.K.Sink.taken c.run_opened.new.sink) (g.K.Sink.faults c.args.sink.now) (g.K.Sink.faults c.run_opened.new.sink)) c.in-Ok-open.ensures.told
    (c.run_opened.ensures c.args.scene start
    (may_run g.B.TableName.table c.args.scene _ _ _ _ _ _ _ c.scene.view_is
    (c.in-Ok-open.ensures.opens (of_scene c.args.scene _ _ c.scene.view_is c.scene.invariant c.as_slice.ensures) c.requires.may.fresh
    (subst (λ (s : SceneValue). permits_of s.actors ≤ g.B.TableName.table.slots) (sym c.scene.view_is) c.requires.may.sized))
    c.in-Ok-with_limit.ensures c.most_layers.ensures c.in-Ok.ensures begun))

pub returns-in_default : goal.returns-in_default
returns-in_default g c = λ start begun. ended_early c.args.tells c.args.scene start _ _ begun

pub returns-in_default-open : goal.returns-in_default-open
returns-in_default-open g c = λ start begun. ended_early c.args.tells c.args.scene start _ _ begun

pub returns-in_default-with_limit : goal.returns-in_default-with_limit
returns-in_default-with_limit g c = λ start begun. ended_early c.args.tells c.args.scene start _ _ begun
