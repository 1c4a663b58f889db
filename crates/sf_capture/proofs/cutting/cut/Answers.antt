use Rattle.std.proofs.Common.{◌∙◌, sym, subst, map}
use Rattle.sf_output_shown.specs.Cuts.{cut_layer}
use Rattle.sf_output_shown.specs.sf_tree.Kept.{IsTree}
use Rattle.sf_capture.proofs.CutLemmas.{IsTree-cut}
use Rattle.sf_capture.proofs.cutting.cut.Goals as goal

pub tree_of-requires : goal.tree_of-requires
tree_of-requires c =
    let kept = c.deref.ensures.value ∙ c.in_ok-kept.ensures.value in
    subst (IsTree 9216) (sym (c.deref-2.ensures.value ∙ (c.in_ok-layers.ensures ∙ (λ i. map (cut_layer (kept i) c.args.layer) (kept i)))))
    (IsTree-cut c.args.tree.now.most c.args.tree.now.layers c.args.layer c.layer.ensures.kept)
