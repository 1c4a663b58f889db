use Rattle.sf_tree.proofs.SearchKnowledge.{IsSearch-start}
use Rattle.sf_tree.proofs.cycles.Search.from.Goals as goal

pub returns-clause-search : goal.returns-clause-search
returns-clause-search c steps =
    rw (c.in_ok-push.ensures.items, c.new-found.ensures.items, c.in_ok-marks.ensures.items_if_clones_equal (λ y e. e)) (IsSearch-start steps c.args.layers.now c.args.first c.args.place c.len.result c.requires c.len.ensures)
