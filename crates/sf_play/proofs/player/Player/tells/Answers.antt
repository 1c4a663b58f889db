use Rattle.std.proofs.Common.{◌≤◌, length, subst}
use Rattle.sf_play_report.specs.sf_tree.Trees.{TreeOf}
use Rattle.sf_play.proofs.player.Player.tells.Goals as goal

pub returns : goal.returns
returns g c = rw (← c.self.view_is) (record {
  desk = record { knows = c.exact.ensures; legal = c.legal.ensures };
  own = c.owns.ensures;
  handler = c.contents.ensures.kept;
  few = subst (λ (tree : TreeOf). length tree.layers ≤ tree.most) c.tree.ensures.tree c.layers.ensures.kept.few;
})
