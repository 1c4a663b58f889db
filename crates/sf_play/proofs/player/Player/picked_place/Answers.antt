use Rattle.std.proofs.Common.{◌∙◌, ap}
use Rattle.sf_play.specs.Players.{PlayerOf}
use Rattle.sf_play.specs.Actions.{picked_place}
use Rattle.sf_play.proofs.ActionParts.{picked_there}
use Rattle.sf_play.proofs.player.Player.picked_place.Goals as goal

pub returns-clause-names : goal.returns-clause-names
returns-clause-names g c =
    c.index_of.ensures.first
    ∙ picked_there c.self.inside.actor_set.actors c.args.number c.if-number-eq0.false
    ∙ ap (λ (p : PlayerOf g.row.B.Denot). picked_place p.play.actor_set.actors c.args.number) c.self.view_is
