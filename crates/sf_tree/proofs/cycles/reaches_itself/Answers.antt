use Rattle.std.proofs.Common.{◌≡◌, ◌<◌, ◌≤◌, sym, subst, ap, ◌∙◌, refl, arith, Ok, false, List, length, length-append}
use Rattle.std.specs.List.{All}
use Rattle.sf_layer.specs.declared.layer.Layer.{Layer}
use Rattle.sf_tree.specs.inner.Search.{leads_to, steps_along, Grows}
use Rattle.sf_tree.specs.Steps.{reaches_itself}
use Rattle.sf_tree.proofs.LayerPaths.{reaches-unknown, reaches-explored, reaches-le}
use Rattle.sf_tree.proofs.UnreachedLayers.{reaches-stepless, reaches-unled}
use Rattle.sf_tree.proofs.Lookups.{layer_of-place}
use Rattle.sf_tree.proofs.SearchSteps.{explored_more, Contains-grows, found-le}
use Rattle.sf_tree.proofs.cycles.reaches_itself.Goals as goal

pub returns-in_default : goal.returns-in_default
unfolding reaches_itself
returns-in_default c = sym (reaches-unknown (steps_along c.args.along) c.args.layers.now (length c.args.layers.now) c.args.id c.args.id (sym c.index_of.ensures.place ∙ c.in_default.is))

pub returns-then-not-has_step : goal.returns-then-not-has_step
unfolding reaches_itself
returns-then-not-has_step c =
    sym (reaches-stepless (steps_along c.args.along) c.args.layers.now c.args.id c.args.id c.at.result (layer_of-place c.args.layers.now c.args.id c.in-Some.place (sym c.in-Some.ensures.place) ∙ c.at.ensures) (c.if-not-has_step.ensures refl) (length c.args.layers.now))

pub loop-index-init : goal.loop-index-init
loop-index-init c = record {
  search = c.in_ok-search.ensures.search (steps_along c.args.along);
  first = rw c.in_ok-search.ensures.first (0, omega arith, refl);
  explored = λ k d h. absurd (omega arith);
  inside = omega arith;
}

pub returns-then-not-any_leads_to : goal.returns-then-not-any_leads_to
unfolding reaches_itself
returns-then-not-any_leads_to c =
    sym (reaches-unled c.args.along c.args.layers.now c.args.id (subst (λ (layers : List Layer). All (λ layer. leads_to c.args.along c.args.id layer ≡ false) layers) c.as_slice.ensures.value (c.if-not-any_leads_to.ensures refl)) (length c.args.layers.now) c.args.id)

pub returns-then-branch : goal.returns-then-branch
unfolding reaches_itself
returns-then-branch c =
    let most : length c.loop-index.search.found.items ≤ length c.args.layers.now = found-le _ _ _ _ _ c.loop-index.invariant.search in
    let low : c.loop-index.index < length c.loop-index.search.found.items = omega (arith, c.loop-index.search.found.ok.0, c.len.ensures, c.loop-index-test.true) in
    sym (reaches-le (steps_along c.args.along) c.args.layers.now _ (length c.args.layers.now) c.args.id c.args.id (omega arith) (c.explore.ensures.back (c.in_ok-explore.was ∙ ap Ok c.if-branch.true)))

pub loop-index-smaller : goal.loop-index-smaller
loop-index-smaller c =
    let most : length c.loop-index.search.found.items ≤ length c.args.layers.now = found-le _ _ _ _ _ c.loop-index.invariant.search in
    let low : c.loop-index.index < length c.loop-index.search.found.items = omega (arith, c.loop-index.search.found.ok.0, c.len.ensures, c.loop-index-test.true) in
    omega arith

pub loop-index-preserved : goal.loop-index-preserved
loop-index-preserved c =
    let on : c.explore.result ≡ Ok false = c.in_ok-explore.was ∙ ap Ok c.if-branch.false in
    let grows : Grows c.loop-index.search.found.items c.explore.new.self.found.items = c.explore.ensures.grows on in
    let low : c.loop-index.index < length c.loop-index.search.found.items = omega (arith, c.loop-index.search.found.ok.0, c.len.ensures, c.loop-index-test.true) in
    record {
      search = c.explore.ensures.search on;
      first = Contains-grows _ _ _ grows c.loop-index.invariant.first;
      explored = explored_more (steps_along c.args.along) c.args.layers.now c.args.id _ _ c.loop-index.index grows low c.loop-index.invariant.explored (c.explore.ensures.explored on);
      inside = rw grows.1 (omega (arith, length-append c.loop-index.search.found.items grows.0));
    }

pub returns : goal.returns
unfolding reaches_itself
returns c =
    let all : length c.loop-index.search.found.items ≤ c.loop-index.index = omega (arith, c.loop-index.search.found.ok.0, c.len.ensures, c.loop-index-test.false) in
    sym (reaches-explored (steps_along c.args.along) c.args.layers.now c.args.id c.loop-index.search.found.items (λ k d h. c.loop-index.invariant.explored k d (omega arith)) (length c.args.layers.now) c.args.id c.loop-index.invariant.first)
