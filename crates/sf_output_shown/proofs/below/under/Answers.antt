use Rattle.std.proofs.Common.{◌≡◌, ◌<◌, ◌∷◌, ◌++◌, [], length, get_or, is_some, ap, sym, ◌∙◌, arith}
use Rattle.std.proofs.lemmas.Option.{get_or_from_slice_get}
use Rattle.sf_view.specs.sf_layer.declared.layer.Layer.{Layer}
use Rattle.sf_view.proofs.sf_tree_lemmas.ShowLemmas.{layer_at}
use Rattle.sf_output_shown.specs.Cuts.{is_under}
use Rattle.sf_output_shown.proofs.AboveLemmas.{kept-more, kept-same, under-at}
use Rattle.sf_output_shown.proofs.below.under.Goals as goal
use Rattle.sf_output_shown.proofs.below.under.Goals.{then-is_some+in_ok-push, else-is_some}

pub loop-index-preserved : goal.loop-index-preserved
loop-index-preserved c =
    let tree = c.args.tree.now.layers in
    let i = c.loop-index.index in
    let count : length c.layers-index-end.result.now ≡ length tree = ap length c.layers-index-end.ensures.value in
    let inside : i < length tree = omega (arith, c.loop-index-test.true, count) in
    let is : (d : Layer) → c.is_some.result ≡ is_under tree c.args.id (get_or tree i d) =
    λ d. c.is_some.ensures ∙ (ap is_some c.index.ensures ∙ under-at tree c.args.id c.in_ok-found.found.items i d _ c.in_ok-found.ensures.value inside) in
    let d : Layer = (layer_at tree i inside).0 in
    elim c.if-is_some.branch [
      | then-is_some+in_ok-push w ↦
          rw w.kept-is (w.in_ok-push.ensures.items
          ∙ (ap (λ (one : Layer). c.loop-index.kept.items ++ one ∷ []) (sym (get_or_from_slice_get tree i w.layer_at.result w.layer_at.result w.layer_at.ensures.layer))
          ∙ kept-more (is_under tree c.args.id) tree c.loop-index.kept.items i w.layer_at.result inside c.loop-index.invariant (sym (is w.layer_at.result) ∙ w.if-is_some.true)))
      | else-is_some w ↦
          rw w.kept-is (kept-same (is_under tree c.args.id) tree c.loop-index.kept.items i d inside c.loop-index.invariant (sym (is d) ∙ w.if-is_some.false))
    ]
