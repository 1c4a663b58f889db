use Rattle.std.proofs.Common.{◌<◌, ◌∙◌, length, subst, sym}
use Rattle.sf_play.specs.Players.{PlayOf, PlayerOf}
use Rattle.sf_play.specs.Actions.{KeepsActorSet}
use Rattle.sf_play.proofs.ActionParts.{settled_there, takes_pick}
use Rattle.sf_play.proofs.player.Player.action_at.Goals as goal

pub returns-in-Order-clause-acts : goal.returns-in-Order-clause-acts
returns-in-Order-clause-acts g c = λ ofs keep.
    let play : PlayOf g.row.B.Denot = record { period = c.self.inside.period; order = c.self.inside.order; actor_set = c.self.inside.actor_set; handler = c.self.inside.handler; vsyncs = c.self.inside.vsyncs } in
    let inside : PlayerOf g.row.B.Denot = record { play = play; place = c.self.inside.place; held = c.self.inside.held; is_spent = c.self.inside.is_spent } in
    let low = settled_there c.args.self.now.play.order c.args.self.now.place c.in-Order.place c.in-Order.done (sym c.requires.settled ∙ c.in-Order.is) in
    let low_inside = subst (λ (p : PlayerOf g.row.B.Denot). c.in-Order.place < length p.play.order) (sym c.self.view_is) low in
    let keep_inside = subst (λ (p : PlayerOf g.row.B.Denot). KeepsActorSet g.B.TableName.table p.play ofs) (sym c.self.view_is) keep in
    rw (c.in-Order.is, ← c.self.view_is)
    (takes_pick _ g.B.TableName.table ofs c.in-Order.place c.in-Order.done inside c.pick.new.self c.as_slice.result.now (record { actor = 0; times = 0 }) c.pick.result c.as_slice.ensures low_inside (c.pick.ensures.picks ofs keep_inside)
    c.pick.ensures.place)

pub returns-in-Round-clause-acts : goal.returns-in-Round-clause-acts
returns-in-Round-clause-acts g c = λ ofs keep. rw c.in-Round.is (c.round.ensures.rounds ofs keep)
