use Rattle.std.proofs.Common.{◌≡◌, ◌∙◌, ◌==◌, Some, ap, subst, sym}
use Rattle.std.specs.List.{position}
use Rattle.law_rights.specs.sf_actor_steps.declared.actor.Actor.{Actor}
use Rattle.law_rights.specs.sf_actor_set.ActorSets.{number_of}
use Rattle.sf_play.specs.Players.{PlayerOf}
use Rattle.sf_play.proofs.ActionParts.{picks_step}
use Rattle.sf_play.proofs.player.Player.pick.Goals as goal

pub returns-in-Some-clause-picks : goal.returns-in-Some-clause-picks
returns-in-Some-clause-picks g c = λ ofs keep.
    let at = subst (λ (p : PlayerOf g.row.B.Denot). position (λ (actor : Actor g.row.B.Denot). number_of actor == c.args.number) p.play.actor_set.actors ≡ Some c.in-Some.place) c.self-2.view_is (sym c.index_of.ensures.first ∙ c.in-Some.is) in
    picks_step _ g.B.TableName.table ofs c.args.number c.in-Some.place c.args.self.now c.step.new.self c.step.result c.if-number-eq0.false at (c.step.ensures.tries ofs keep) (ap (λ (p : PlayerOf g.row.B.Denot). p.held) c.step.ensures.rest)
