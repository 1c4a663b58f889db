use Rattle.std.proofs.Common.{ℕ, ◌∙◌, ap, subst, sym}
use Rattle.sf_script_scene.specs.Limits.{most_layers}
use Rattle.sf_live_compositor.specs.sf_play.Players.{PlayerOf}
use Rattle.sf_live_compositor.specs.sf_play.Standing.{IsStanding}
use Rattle.sf_live_compositor.specs.sf_live_threads.Gates.{HavePassed}
use Rattle.sf_live.proofs.GoingOn.{has_shown, same_player, tells_joined}
use Rattle.sf_live.proofs.resuming.go_on.Goals as goal

pub returns-clause-shown : goal.returns-clause-shown
returns-clause-shown g c = λ run locks start both.
    let t = both.0 in
    has_shown _ g.B.TableName.table run locks c.args.joined start c.args.period c.args.order c.args.handler c.args.vsyncs t both.1
    (record { plain = λ a b e. e; picture = λ a b e. e; number = λ a b e. ap (λ (p : ℕ × ℕ). p.1) e }) (λ eye l knows. knows)
    (c.buffers_among_threads_have_their_pictures.ensures (record { scene = run.scene; period = run.scene.period; most = most_layers run.scene.version; locks = locks; last = run.last; ends = t.ends; desk = t.desk; is = t.is })) c.resume-player.result c.resume-player.ensures
    (c.a_run_in_threads_goes_on.ensures.in_run (record { scene = run.scene; period = run.scene.period; most = most_layers run.scene.version; locks = locks; last = run.last; ends = t.ends; desk = t.desk; is = t.is }) t.few)
    (c.what_threads_did_is_played.ensures.vsyncs (record { scene = run.scene; period = run.scene.period; most = most_layers run.scene.version; locks = locks; last = run.last; ends = t.ends; desk = t.desk; is = t.is }))

pub resume-player-requires : goal.resume-player-requires
resume-player-requires g c =
    let run = c.requires.goes.0 in
    let locks = c.requires.goes.1 in
    let t = c.requires.goes.3.0 in
    subst (IsStanding g.B.TableName.table) (sym (same_player _ g.B.TableName.table run locks c.args.joined c.requires.goes.2 c.args.period c.args.order c.args.handler c.args.vsyncs t c.requires.goes.3.1))
    (c.a_run_in_threads_goes_on.ensures.standing (record { scene = run.scene; period = run.scene.period; most = most_layers run.scene.version; locks = locks; last = run.last; ends = t.ends; desk = t.desk; is = t.is }) t.few)

pub returns-clause-told : goal.returns-clause-told
returns-clause-told g c = λ run locks t.
    ap (λ (player : PlayerOf g.row.B.Denot). player.play.actor_set.desk.tells) c.resume-player.ensures ∙ tells_joined _ g.B.TableName.table run locks c.args.joined t

pub returns-clause-gates : goal.returns-clause-gates
returns-clause-gates g c =
    subst (λ (player : PlayerOf g.row.B.Denot). HavePassed player.play.actor_set.actors c.args.joined.gates.items) (sym c.resume-player.ensures) c.requires.goes.3.0.gates
