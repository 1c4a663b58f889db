use Rattle.std.proofs.Common.{◌≡◌, sym, ap, ◌∙◌, refl, arith, false, true, ◌&&◌, Bool}
use Rattle.sf_layer.specs.declared.layer.Layer.{Layer}
use Rattle.sf_tree.specs.Layers.{has_layer}
use Rattle.sf_tree.proofs.Edits.{IsEdit, edit_at, reparented-settled, reparented-unknown, has_layer-absent}
use Rattle.sf_tree.proofs.changes.reparent.Goals as goal

and_false : (b c : Bool) → c ≡ false → (b && c) ≡ false
and_false true c e = e
and_false false c e = refl

pub returns-in_default : goal.returns-in_default
returns-in_default c = (reparented-unknown c.args.layers.now c.args.id c.args.parent (rw (has_layer-absent c.args.layers.now c.args.id (sym c.index_of.ensures.place ∙ c.in_default.is)) refl), refl)

pub returns-then-not-has_parent : goal.returns-then-not-has_parent
returns-then-not-has_parent c = (reparented-unknown c.args.layers.now c.args.id c.args.parent (and_false (has_layer c.args.layers.now c.args.id) _ (sym c.has_parent.ensures ∙ grind arith)), refl)

pub set-requires-clause-same : goal.set-requires-clause-same
set-requires-clause-same c =
    (edit_at c.args.layers.now c.args.id (λ l. record l { parent = c.args.parent }) c.in-Some.place c.at-before.result c.with_parent.result c.in-Some.ensures.distinct c.in-Some.ensures.place c.at-before.ensures c.with_parent.ensures (ap (λ (l : Layer). l.number) c.with_parent.ensures)).before

pub returns : goal.returns
returns c =
    let e : IsEdit c.args.layers.now c.args.id (λ l. record l { parent = c.args.parent }) c.in-Some.place c.at-before.result c.with_parent.result =
    edit_at c.args.layers.now c.args.id (λ l. record l { parent = c.args.parent }) c.in-Some.place c.at-before.result c.with_parent.result c.in-Some.ensures.distinct c.in-Some.ensures.place c.at-before.ensures c.with_parent.ensures (ap (λ (l : Layer). l.number) c.with_parent.ensures) in
    reparented-settled c.args.layers.now c.set.new.self c.settle.new.layers c.args.id c.args.parent c.in-Some.place c.at-before.result c.with_parent.result c.parent_fault-fault.result c.settle.result e c.set.ensures (sym c.has_parent.ensures ∙ grind arith) c.parent_fault-fault.ensures c.settle.ensures
