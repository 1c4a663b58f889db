use Rattle.std.proofs.Common.{◌∙◌, ap, map, subst}
use Rattle.law_played.specs.sf_commit.Handlers.{source_of}
use Rattle.law_played.specs.sf_tree.DrawOrder.{draw_order}
use Rattle.law_played.specs.sf_tree.Trees.{TreeOf}
use Rattle.law_played.specs.sf_view.Views.{ViewOf, Views}
use Rattle.sf_play_report.proofs.SourceLemmas.{own_sources}
use Rattle.sf_play_report.proofs.sourcing.whole_sourced.Goals as goal

pub returns-clause-views : goal.returns-clause-views
returns-clause-views g c = subst (λ (t : TreeOf). Views t.layers c.args.width c.args.height c.in_ok-view.view) c.tree.ensures.tree c.in_ok-view.ensures

pub returns-clause-sources : goal.returns-clause-sources
returns-clause-sources g c =
    let on = c.args.handler.now.on in
    let tree = c.args.handler.now.tree.layers in
    let views = subst (λ (t : TreeOf). Views t.layers c.args.width c.args.height c.in_ok-view.view) c.tree.ensures.tree c.in_ok-view.ensures in
    own_sources on tree (draw_order tree) c.args.width c.args.height c.in_ok-view.view c.in_ok-sources.sources c.requires.stands views
    (c.in_ok-sources.ensures.sources ∙ ap (map (source_of on)) (c.as_slice.ensures ∙ ap (λ (v : ViewOf). v.drawn) c.view.view_is))
