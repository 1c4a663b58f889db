use Rattle.std.proofs.Common.{◌≡◌, ◌∙◌, length, ap, sym, arith}
use Rattle.std.proofs.lemmas.List.{length-map}
use Rattle.sf_output_shown.specs.Above.{found_above}
use Rattle.sf_output_shown.specs.Displays.{stack_by, stack_on}
use Rattle.sf_output_shown.specs.declared.above.Wanted.TheVariants as wanted
use Rattle.sf_tree.proofs.Lookups.{layer_of-none}
use Rattle.sf_tree.proofs.Places.{index_of_inside}
use Rattle.sf_tree.proofs.ShowLemmas.{at_found}
use Rattle.sf_display.proofs.IndexLemmas.{stack-found}
use Rattle.sf_display.proofs.display.stack_on.Goals as goal

pub bounds-tops-index : goal.bounds-tops-index
bounds-tops-index c =
    let tree = c.args.tree.now.layers in
    let long : length c.args.tops.now ≡ length tree = ap length c.requires ∙ length-map tree (found_above wanted.Top tree) in
    omega (arith, long, index_of_inside tree c.args.id c.in-Some.index (sym c.in-Some.ensures.value))

pub returns-in-Some : goal.returns-in-Some
returns-in-Some c = λ stacks is.
    let tree = c.args.tree.now.layers in
    let at = at_found tree c.args.id c.in-Some.index c.in-Some.ensures.value in
    (rw is at c.stack_of.ensures) ∙ stack-found tree stacks c.args.tops.now c.args.id c.in-Some.index _ at.0 c.requires at.1 at.2

pub returns-in-None : goal.returns-in-None
unfolding stack_on
returns-in-None c = λ stacks is. ap (stack_by c.args.tree.now.layers stacks) (sym (layer_of-none c.args.tree.now.layers c.args.id (sym c.in-None.ensures.value)))
