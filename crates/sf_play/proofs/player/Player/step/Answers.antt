use Rattle.std.proofs.Common.{refl, subst}
use Rattle.sf_play.specs.Players.{PlayerOf}
use Rattle.sf_play.specs.Actions.{KeepsActorSet, TriesStep}
use Rattle.sf_play.proofs.player.Player.step.Goals as goal

pub returns-clause-tries : goal.returns-clause-tries
returns-clause-tries g c = λ ofs keep.
    subst (λ (p : PlayerOf g.row.B.Denot). KeepsActorSet g.B.TableName.table p.play ofs → TriesStep g.B.TableName.table c.args.place ofs p.play (record { period = c.self.inside.period; order = c.self.inside.order; actor_set = c.try_step.new.self; handler = c.self.inside.handler; vsyncs = c.self.inside.vsyncs }) c.action_by.result) c.self.view_is
    (λ kept. record {
      stepped = c.in_ok-stepped.stepped;
      is = c.action_by.ensures;
      steps = c.in_ok-stepped.ensures.steps ofs kept;
      same = c.in_ok-stepped.ensures.same;
      acts = c.in_ok-stepped.ensures.ok;
      rest = refl;
    }) keep
