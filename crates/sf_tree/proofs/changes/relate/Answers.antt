use Rattle.std.proofs.Common.{◌≡◌, Some, sym, ap, ◌∙◌, refl, arith, false, true, ◌&&◌, Bool, w32}
use Rattle.std.proofs.lemmas.Int.{to_z-of_z}
use Rattle.sf_layer.specs.declared.layer.Layer.{Layer}
use Rattle.sf_tree.specs.Layers.{has_layer}
use Rattle.sf_tree.proofs.Edits.{IsEdit, edit_at, made_relative-settled, made_relative-unknown, has_layer-absent}
use Rattle.sf_tree.proofs.changes.relate.Goals as goal

and_false : (b c : Bool) → c ≡ false → (b && c) ≡ false
and_false true c e = e
and_false false c e = refl

pub returns-in_default : goal.returns-in_default
returns-in_default c = (made_relative-unknown c.args.layers.now c.args.id c.args.other c.args.z (rw (has_layer-absent c.args.layers.now c.args.id (sym c.index_of.ensures.place ∙ c.in_default.is)) refl), refl)

pub returns-then-not-has : goal.returns-then-not-has
returns-then-not-has c = (made_relative-unknown c.args.layers.now c.args.id c.args.other c.args.z (and_false (has_layer c.args.layers.now c.args.id) _ (sym c.has.ensures ∙ grind arith)), refl)

pub set-requires-clause-same : goal.set-requires-clause-same
set-requires-clause-same c =
    (edit_at c.args.layers.now c.args.id (λ l. record l { relative = Some c.args.other; z = c.args.z }) c.in-Some.place c.at-before.result c.with_relative.result c.in-Some.ensures.distinct c.in-Some.ensures.place c.at-before.ensures (rw (to_z-of_z w32 c.args.z c.ranges.z) at c.with_relative.ensures) (ap (λ (l : Layer). l.number) c.with_relative.ensures)).before

pub returns : goal.returns
returns c =
    let e : IsEdit c.args.layers.now c.args.id (λ l. record l { relative = Some c.args.other; z = c.args.z }) c.in-Some.place c.at-before.result c.with_relative.result =
    edit_at c.args.layers.now c.args.id (λ l. record l { relative = Some c.args.other; z = c.args.z }) c.in-Some.place c.at-before.result c.with_relative.result c.in-Some.ensures.distinct c.in-Some.ensures.place c.at-before.ensures (rw (to_z-of_z w32 c.args.z c.ranges.z) at c.with_relative.ensures) (ap (λ (l : Layer). l.number) c.with_relative.ensures) in
    made_relative-settled c.args.layers.now c.set.new.self c.settle.new.layers c.args.id c.args.other c.args.z c.in-Some.place c.at-before.result c.with_relative.result c.draw_fault-fault.result c.settle.result e c.set.ensures (sym c.has.ensures ∙ grind arith) c.draw_fault-fault.ensures c.settle.ensures
