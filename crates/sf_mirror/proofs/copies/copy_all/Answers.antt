use Rattle.std.proofs.Common.{◌<◌, ◌∷◌, ◌++◌, [], List, map, take, ap, sym, ◌∙◌}
use Rattle.std.proofs.lemmas.List.{map_more, take_all}
use Rattle.std.proofs.lemmas.List.Elements.{All-push}
use Rattle.sf_output_shown.specs.sf_layer.declared.layer.Layer.{Layer}
use Rattle.sf_output_shown.specs.Copies.{copied}
use Rattle.sf_mirror.proofs.copies.copy_all.Goals as goal

pub loop-layer-preserved : goal.loop-layer-preserved
loop-layer-preserved c =
    let f = copied c.args.mirror c.args.id c.args.names.now in
    let i = c.loop-layer.layer-index in
    record {
      value = c.in_ok-push.ensures.items
          ∙ (ap (λ (made : List Layer). made ++ c.copied.result ∷ []) c.loop-layer.invariant.value
          ∙ (ap (λ (one : Layer). map f (take i c.args.layers.now) ++ one ∷ []) c.copied.ensures.value ∙ sym (map_more f c.args.layers.now i _ c.loop-layer-test.true)));
      numbered = rw (c.in_ok-push.ensures.items) (All-push (λ (copy : Layer). 0 < copy.number.0) c.loop-layer.copies.items c.copied.result c.loop-layer.invariant.numbered c.copied.ensures.numbered);
    }

pub returns-clause-value : goal.returns-clause-value
returns-clause-value c =
    c.loop-layer.invariant.value ∙ ap (map (copied c.args.mirror c.args.id c.args.names.now)) (take_all c.loop-layer.layer-index c.args.layers.now c.loop-layer-test.false)
