use Rattle.std.proofs.Common.{◌∷◌, ◌++◌, [], List, map, take, ap, sym, ◌∙◌}
use Rattle.std.proofs.lemmas.List.{map_more, take_all}
use Rattle.sf_output_shown.specs.sf_layer.declared.layer.Layer.{Layer}
use Rattle.sf_output_shown.specs.Cuts.{cut_layer}
use Rattle.sf_capture.proofs.cutting.cut_layers.Goals as goal

pub loop-layer-preserved : goal.loop-layer-preserved
loop-layer-preserved c =
    let f = cut_layer c.args.kept.now c.args.id in
    let i = c.loop-layer.layer-index in
    c.in_ok-push.ensures.items
    ∙ (ap (λ (made : List Layer). made ++ c.cut_layer.result ∷ []) c.loop-layer.invariant
    ∙ (ap (λ (one : Layer). map f (take i c.args.kept.now) ++ one ∷ []) c.cut_layer.ensures ∙ sym (map_more f c.args.kept.now i _ c.loop-layer-test.true)))

pub returns : goal.returns
returns c = c.loop-layer.invariant ∙ ap (map (cut_layer c.args.kept.now c.args.id)) (take_all c.loop-layer.layer-index c.args.kept.now c.loop-layer-test.false)
