use Rattle.std.proofs.Common.{◌≡◌, ◌≤◌, ◌+◌, ◌-◌, Some, sym, ◌∙◌, refl, arith, subst}
use Rattle.sf_layer.specs.declared.layer.Layer.{Layer}
use Rattle.sf_tree.specs.inner.Known.{IsKnown, Outranks}
use Rattle.sf_tree.specs.Showing.{shows}
use Rattle.sf_tree.proofs.Lookups.{layer_of-none, layer_of-place}
use Rattle.sf_tree.proofs.Places.{index_of_inside}
use Rattle.sf_tree.proofs.ShowLemmas.{shows-is, Outranks-parent, Outranks-relative, Outranks-le, at_found, IsKnown-set}
use Rattle.sf_tree.proofs.showing.+show.Goals as goal
use Rattle.sf_tree.proofs.showing.+show.Goals.{decide-in-Root, decide-in-Layer, decide-in-Nothing}

pub decide-layer_shows-hangs-requires : goal.decide-layer_shows-hangs-requires
decide-layer_shows-hangs-requires t c =
    (omega arith, (c.requires.known, λ layer e. Outranks-parent c.args.layers.now c.args.layer.now layer c.in-Layer.id c.args.steps c.requires.steps c.in-Layer.is e))

pub decide-layer_shows-requires : goal.decide-layer_shows-requires
decide-layer_shows-requires t c =
    let known : IsKnown c.args.layers.now c.match-layer.known = elim c.match-layer.branch [ decide-in-Root w ↦ rw w.known-is c.requires.known | decide-in-Layer w ↦ rw w.known-is w.layer_shows-hangs.ensures.known | decide-in-Nothing w ↦ rw w.known-is c.requires.known ] in
    (omega arith, (known, λ layer e. Outranks-relative c.args.layers.now c.args.layer.now layer c.in-Some.id c.args.steps c.requires.steps c.in-Some.is e))

pub layer_shows-overflow_sub-steps : goal.layer_shows-overflow_sub-steps
layer_shows-overflow_sub-steps t c =
    let at = at_found c.args.layers.now c.args.id c.in-Some.place c.in-Some.ensures.place in
    let o : Outranks c.args.layers.now at.0 c.args.steps = c.requires.steps at.0 at.1 in
    omega (arith, o.low)

pub layer_shows-show-requires : goal.layer_shows-show-requires
layer_shows-show-requires t c =
    let at = at_found c.args.layers.now c.args.id c.in-Some.place c.in-Some.ensures.place in
    let o : Outranks c.args.layers.now at.0 c.args.steps = c.requires.steps at.0 at.1 in
    let some : 1 ≤ c.args.steps = omega (arith, o.low) in
    (omega arith, (index_of_inside c.args.layers.now c.args.id c.in-Some.place (sym c.in-Some.ensures.place), (c.requires.known, λ layer e. Outranks-le c.args.layers.now layer c.args.steps (c.args.steps - 1 + 1) (c.requires.steps layer (layer_of-place c.args.layers.now c.args.id c.in-Some.place (sym c.in-Some.ensures.place) ∙ e)) (omega arith))))

pub layer_shows-returns-in-Some-clause-shown : goal.layer_shows-returns-in-Some-clause-shown
layer_shows-returns-in-Some-clause-shown t c =
    let at = at_found c.args.layers.now c.args.id c.in-Some.place c.in-Some.ensures.place in
    rw at.1 (c.show.ensures.shown at.0 at.2)

pub layer_shows-returns-in-None-clause-shown : goal.layer_shows-returns-in-None-clause-shown
layer_shows-returns-in-None-clause-shown t c = rw (layer_of-none c.args.layers.now c.args.id (sym c.in-None.ensures.place)) refl

pub show-returns-clause-shown : goal.show-returns-clause-shown
show-returns-clause-shown t c layer e =
    let both : Some c.at.result ≡ Some layer = sym c.at.ensures ∙ e in
    let same : c.at.result ≡ layer = cc in
    subst (λ (l : Layer). c.decide-shown.result ≡ shows c.args.layers.now l) same (c.decide-shown.ensures.shown ∙ sym (shows-is c.args.layers.now c.at.result _ (c.requires.steps c.at.result c.at.ensures)))

pub show-returns-clause-known : goal.show-returns-clause-known
show-returns-clause-known t c =
    IsKnown-set c.args.layers.now c.decide-shown.new.known c.args.place c.at.result c.decide-shown.result c.decide-shown.ensures.known c.at.ensures (c.decide-shown.ensures.shown ∙ sym (shows-is c.args.layers.now c.at.result _ (c.requires.steps c.at.result c.at.ensures)))
