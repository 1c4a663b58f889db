use Rattle.std.proofs.Common.{◌≡◌, ◌<◌, ◌+◌, length, ap, sym, ◌∙◌, refl, arith}
use Rattle.sf_view.proofs.sf_tree_lemmas.ShowLemmas.{Outranks-le, Outranks-tree, layer_at, map-take-more, written_back}
use Rattle.sf_output_shown.specs.Above.{found_above}
use Rattle.sf_output_shown.proofs.above.found_above.Goals as goal

pub find-requires-clause-steps : goal.find-requires-clause-steps
find-requires-clause-steps c = λ layer at.
    let count : length c.layers-count.result.now ≡ length c.args.tree.now.layers = ap length c.layers-count.ensures.value in
    let kept = c.layers-count.ensures.kept in
    Outranks-le c.args.tree.now.layers layer _ (length c.layers-count.result.now + 1) (Outranks-tree c.args.tree.now.layers c.loop-index.index layer kept.distinct kept.tied kept.no_cycle at) (omega arith)

pub loop-index-preserved : goal.loop-index-preserved
loop-index-preserved c =
    let tree = c.args.tree.now.layers in
    let count : length c.layers-count.result.now ≡ length tree = ap length c.layers-count.ensures.value in
    let inside : c.loop-index.index < length tree = omega (arith, c.loop-index-test.true, count) in
    let at = layer_at tree c.loop-index.index inside in
    record {
      found = rw (written_back c.find.new.found c.loop-index.found.items c.loop-index.found.len (c.find.ensures.found.size ∙ sym c.loop-index.invariant.found.size) c.loop-index.found.ok.0) c.find.ensures.found;
      value = c.in_ok-push.ensures.items ∙ (rw (map-take-more (found_above c.args.wanted tree) tree c.loop-index.index at.0 inside at.1, c.loop-index.invariant.value, c.find.ensures.value at.0 at.1) refl);
    }
