use Rattle.std.proofs.Common.{◌≡◌, ◌≤◌, ◌+◌, List, length, refl, sym, ap, ◌∙◌, subst, arith}
use Rattle.std.specs.List.{All, AllZip}
use Rattle.std.proofs.lemmas.List.{take_all}
use Rattle.std.proofs.lemmas.List.Elements.{All-push}
use Rattle.std.proofs.lemmas.Slice.Zip.{all_zipped_more}
use Rattle.sf_tree.specs.sf_layer.declared.layer.Layer.{Layer}
use Rattle.sf_tree.specs.Kept.{IsLayerInRange}
use Rattle.sf_tree.proofs.Lookups.{layer_of-none, layer_of-place}
use Rattle.sf_tree.proofs.Ranks.{All-layer_of}
use Rattle.sf_tree.proofs.ShowLemmas.{Outranks-le, Outranks-tree, written_back}
use Rattle.sf_view.specs.Ancestry.{ancestry}
use Rattle.sf_view.specs.declared.drawn.Drawn.{Drawn}
use Rattle.sf_view.specs.Image.{drawn_in}
use Rattle.sf_view.specs.Views.{Draws, IsClip}
use Rattle.sf_view.proofs.AncestryLemmas.{ancestry-few}
use Rattle.sf_view.proofs.ViewLemmas.{with_content-none, with_content-no, with_content-yes}
use Rattle.sf_view.proofs.view.view_in_order.Goals as goal

pub loop-id-preserved-in_default : goal.loop-id-preserved-in_default
loop-id-preserved-in_default c = record {
  found = c.loop-id.invariant.found;
  draws = subst (λ (layers : List Layer). AllZip (Draws c.args.tree.now.layers c.args.width c.args.height) layers c.loop-id.drawn.items)
      (sym (with_content-none c.args.tree.now.layers c.args.order.now c.loop-id.id-index _ c.loop-id-test.true (layer_of-none c.args.tree.now.layers _ (sym c.index_of.ensures.value ∙ c.in_default.is))))
      c.loop-id.invariant.draws;
  clips = c.loop-id.invariant.clips;
  orients = c.loop-id.invariant.orients;
}

pub loop-id-preserved-in_default-content_of : goal.loop-id-preserved-in_default-content_of
loop-id-preserved-in_default-content_of c = record {
  found = c.loop-id.invariant.found;
  draws = subst (λ (layers : List Layer). AllZip (Draws c.args.tree.now.layers c.args.width c.args.height) layers c.loop-id.drawn.items)
      (sym (with_content-no c.args.tree.now.layers c.args.order.now c.loop-id.id-index _ c.layer_at-layer.result c.loop-id-test.true (layer_of-place c.args.tree.now.layers _ c.in-Some.index (sym c.index_of.ensures.value ∙ c.in-Some.is) ∙ c.layer_at-layer.ensures.layer) (sym c.in_default-content_of.is ∙ c.content_of.ensures)))
      c.loop-id.invariant.draws;
  clips = c.loop-id.invariant.clips;
  orients = c.loop-id.invariant.orients;
}

pub place-at-requires-clause-steps : goal.place-at-requires-clause-steps
place-at-requires-clause-steps c = λ layer at.
    let count : length c.layers-count.result.now ≡ length c.args.tree.now.layers = ap length c.layers-count.ensures.value in
    Outranks-le c.args.tree.now.layers layer _ (length c.layers-count.result.now + 1) (Outranks-tree c.args.tree.now.layers c.in-Some.index layer c.layers-count.ensures.kept.distinct c.layers-count.ensures.kept.tied c.layers-count.ensures.kept.no_cycle at) (omega arith)

pub draw_layer-requires-clause-in_range : goal.draw_layer-requires-clause-in_range
draw_layer-requires-clause-in_range c =
    All-layer_of IsLayerInRange c.args.tree.now.layers _ c.layer_at-layer.result c.layers-count.ensures.kept.in_range (layer_of-place c.args.tree.now.layers _ c.in-Some.index (sym c.index_of.ensures.value ∙ c.in-Some.is) ∙ c.layer_at-layer.ensures.layer)

pub draw_layer-requires-clause-placed : goal.draw_layer-requires-clause-placed
draw_layer-requires-clause-placed c = record {
  ancestry = ancestry c.args.tree.now.layers c.layer_at-layer.result;
  few = omega (arith, ancestry-few c.args.tree.now.layers c.layer_at-layer.result, c.layers-count.ensures.kept.few, c.layers-count.ensures.kept.limit);
  placed = c.place-at.ensures.placed c.layer_at-layer.result c.layer_at-layer.ensures.layer;
}

pub loop-id-preserved : goal.loop-id-preserved
loop-id-preserved c =
    let more = with_content-yes c.args.tree.now.layers c.args.order.now c.loop-id.id-index _ c.layer_at-layer.result c.in-Some-content_of.content c.loop-id-test.true (layer_of-place c.args.tree.now.layers _ c.in-Some.index (sym c.index_of.ensures.value ∙ c.in-Some.is) ∙ c.layer_at-layer.ensures.layer) c.in-Some-content_of.ensures in
    record {
      found = rw (written_back c.place-at.new.found c.loop-id.found.items c.loop-id.found.len (c.place-at.ensures.found.size ∙ sym c.loop-id.invariant.found.size) c.loop-id.found.ok.0) c.place-at.ensures.found;
      draws = rw (c.in_ok-push.ensures.items, more) (all_zipped_more (Draws c.args.tree.now.layers c.args.width c.args.height) _ _ _ _ c.loop-id.invariant.draws (c.draw_layer.ensures.draws c.args.tree.now.layers (c.place-at.ensures.placed c.layer_at-layer.result c.layer_at-layer.ensures.layer)));
      clips = subst (λ (drawn : List Drawn). All (IsClip c.args.width c.args.height) drawn) (sym c.in_ok-push.ensures.items) (All-push (IsClip c.args.width c.args.height) _ _ c.loop-id.invariant.clips c.draw_layer.ensures.clip);
      orients = subst (λ (drawn : List Drawn). All (λ d. d.orient ≤ 7) drawn) (sym c.in_ok-push.ensures.items) (All-push (λ (d : Drawn). d.orient ≤ 7) _ _ c.loop-id.invariant.orients c.draw_layer.ensures.orient);
    }

pub returns : goal.returns
unfolding drawn_in
returns c =
    let all = take_all c.loop-id.id-index c.args.order.now c.loop-id-test.false in
    record { wide = refl; high = refl; drawn = rw c.new.ensures (rw all at c.loop-id.invariant.draws) }
