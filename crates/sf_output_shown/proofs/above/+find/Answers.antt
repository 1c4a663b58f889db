use Rattle.std.proofs.Common.{◌≡◌, ◌+◌, ◌≤◌, ◌-◌, ◌∙◌, Option, Some, None, sym, arith, ap, subst}
use Rattle.sf_view.specs.sf_layer.declared.layer.Layer.{Layer}
use Rattle.sf_view.specs.sf_tree.inner.Known.{Outranks}
use Rattle.sf_view.specs.sf_tree.Layers.{parent_layer}
use Rattle.sf_view.proofs.sf_tree_lemmas.Lookups.{layer_of-none, layer_of-place}
use Rattle.sf_view.proofs.sf_tree_lemmas.Places.{index_of_inside}
use Rattle.sf_view.proofs.sf_tree_lemmas.ShowLemmas.{at_found, Outranks-le, Outranks-parent}
use Rattle.sf_view.specs.Ancestry.{ancestry, and_above}
use Rattle.sf_view.proofs.AncestryLemmas.{ancestry-is}
use Rattle.sf_output_shown.specs.Above.{found_above, found_on}
use Rattle.sf_output_shown.proofs.AboveLemmas.{AreFound-set, found-here, found-later}
use Rattle.sf_output_shown.proofs.above.+find.Goals as goal

pub find-returns-in-Some-clause-value : goal.find-returns-in-Some-clause-value
find-returns-in-Some-clause-value t c = λ layer at. c.requires.found.right c.args.index layer c.in-Some.above at c.in-Some.is

pub find-find_from-above-requires : goal.find-find_from-above-requires
find-find_from-above-requires t c = (omega arith, (c.requires.found, c.requires.steps c.layer_at-layer.result c.layer_at-layer.ensures.layer))

pub find-returns-clause-value : goal.find-returns-clause-value
find-returns-clause-value t c = λ layer at.
    let both : Some c.layer_at-layer.result ≡ Some layer = sym c.layer_at-layer.ensures.layer ∙ at in
    let same : c.layer_at-layer.result ≡ layer = cc in
    subst (λ (l : Layer). c.find_from-above.result ≡ found_above c.args.wanted c.args.tree.now.layers l) same
    (c.find_from-above.ensures.value ∙ ap (found_on c.args.wanted) (sym (ancestry-is c.args.tree.now.layers c.layer_at-layer.result (c.args.steps + 1) (c.requires.steps c.layer_at-layer.result c.layer_at-layer.ensures.layer))))

pub find-returns-clause-found : goal.find-returns-clause-found
find-returns-clause-found t c =
    AreFound-set c.args.wanted c.args.tree.now.layers c.find_from-above.new.found c.args.index c.layer_at-layer.result c.find_from-above.result c.find_from-above.ensures.found c.layer_at-layer.ensures.layer
    (c.find_from-above.ensures.value ∙ ap (found_on c.args.wanted) (sym (ancestry-is c.args.tree.now.layers c.layer_at-layer.result (c.args.steps + 1) (c.requires.steps c.layer_at-layer.result c.layer_at-layer.ensures.layer))))

pub find_from-returns-then-is_wanted-clause-value : goal.find_from-returns-then-is_wanted-clause-value
find_from-returns-then-is_wanted-clause-value t c = found-here c.args.wanted c.args.layer.now _ c.is_wanted.result c.is_wanted.ensures c.if-is_wanted.true

pub find_from-overflow_sub-steps : goal.find_from-overflow_sub-steps
find_from-overflow_sub-steps t c =
    let at = at_found c.args.tree.now.layers c.in-Layer.id c.in-Some.index c.in-Some.ensures.value in
    let o : Outranks c.args.tree.now.layers at.0 c.args.steps = Outranks-parent c.args.tree.now.layers c.args.layer.now at.0 c.in-Layer.id c.args.steps c.requires.steps c.in-Layer.is at.1 in
    omega (arith, o.low)

pub find_from-find-requires : goal.find_from-find-requires
find_from-find-requires t c =
    let tree = c.args.tree.now.layers in
    let at = at_found tree c.in-Layer.id c.in-Some.index c.in-Some.ensures.value in
    let o : Outranks tree at.0 c.args.steps = Outranks-parent tree c.args.layer.now at.0 c.in-Layer.id c.args.steps c.requires.steps c.in-Layer.is at.1 in
    let some : 1 ≤ c.args.steps = omega (arith, o.low) in (
      omega arith,
      (
        index_of_inside tree c.in-Layer.id c.in-Some.index (sym c.in-Some.ensures.value),
        (
          c.requires.found,
          λ layer e. Outranks-le tree layer c.args.steps (c.args.steps - 1 + 1)
              (Outranks-parent tree c.args.layer.now layer c.in-Layer.id c.args.steps c.requires.steps c.in-Layer.is (layer_of-place tree c.in-Layer.id c.in-Some.index (sym c.in-Some.ensures.value) ∙ e)) (omega arith),
        ),
      ),
    )

pub find_from-returns-in-Some-clause-value : goal.find_from-returns-in-Some-clause-value
find_from-returns-in-Some-clause-value t c =
    let tree = c.args.tree.now.layers in
    let at = at_found tree c.in-Layer.id c.in-Some.index c.in-Some.ensures.value in
    let above : parent_layer tree c.args.layer.now.parent ≡ Some at.0 = ap (parent_layer tree) c.in-Layer.is ∙ at.1 in
    c.find.ensures.value at.0 at.2
    ∙ (ap (λ (o : Option Layer). found_on c.args.wanted (and_above (ancestry tree) o)) (sym above)
    ∙ found-later c.args.wanted c.args.layer.now (and_above (ancestry tree) (parent_layer tree c.args.layer.now.parent)) c.is_wanted.result c.is_wanted.ensures c.if-is_wanted.false)

pub find_from-returns-in-None-clause-value : goal.find_from-returns-in-None-clause-value
find_from-returns-in-None-clause-value t c =
    let tree = c.args.tree.now.layers in
    let above : parent_layer tree c.args.layer.now.parent ≡ None = ap (parent_layer tree) c.in-Layer.is ∙ layer_of-none tree c.in-Layer.id (sym c.in-None.ensures.value) in
    ap (λ (o : Option Layer). found_on c.args.wanted (and_above (ancestry tree) o)) (sym above)
    ∙ found-later c.args.wanted c.args.layer.now (and_above (ancestry tree) (parent_layer tree c.args.layer.now.parent)) c.is_wanted.result c.is_wanted.ensures c.if-is_wanted.false
