use Rattle.std.proofs.Common.{◌∙◌, ap}
use Rattle.sf_play.specs.Players.{PlayOf, PlayerOf}
use Rattle.sf_play.proofs.ActionParts.{ends_round}
use Rattle.sf_play.proofs.player.Player.round.Goals as goal

pub returns-clause-rounds : goal.returns-clause-rounds
returns-clause-rounds g c = λ ofs keep.
    let play : PlayOf g.row.B.Denot = record { period = c.self-2.inside.period; order = c.self-2.inside.order; actor_set = c.self-2.inside.actor_set; handler = c.self-2.inside.handler; vsyncs = c.self-2.inside.vsyncs } in
    let inside : PlayerOf g.row.B.Denot = record { play = play; place = c.self-2.inside.place; held = c.self-2.inside.held; is_spent = c.self-2.inside.is_spent } in
    rw c.in_ok-new.ensures (ends_round _ g.B.TableName.table ofs c.args.place c.args.stepped c.args.self.now c.vsync.new.self inside c.behind_round-self-inside.result c.in_ok-report.report c.has_commits-commits.result c.waits_for_time-waits.result
    c.as_slice.result.now c.actors.result.now c.self-2.view_is (c.actors.ensures ∙ ap (λ (p : PlayerOf g.row.B.Denot). p.play.actor_set.actors) c.self.view_is) c.if-place-actors.false c.in_ok-report.ensures.makes c.has_commits-commits.ensures
    c.as_slice.ensures c.waits_for_time-waits.ensures c.behind_round-self-inside.ensures)
