use Rattle.std.proofs.Common.{arith, sym, ap, ◌∙◌}
use Rattle.sf_tree.specs.Changes.{edited}
use Rattle.sf_tree.proofs.Edits.{IsEdit, edit_at, edited_number, edited_layer-fits}
use Rattle.sf_tree.proofs.changes.edit.Goals as goal

pub set-requires-clause-same : goal.set-requires-clause-same
set-requires-clause-same c =
    (edit_at c.args.layers.now c.args.id (edited c.args.op.now) c.in-Some.place c.at-layer.result c.edited.result c.in-Some.ensures.distinct c.in-Some.ensures.place c.at-layer.ensures c.edited.ensures (ap (λ l. l.number) c.edited.ensures ∙ edited_number c.args.op.now c.at-layer.result)).before

pub returns : goal.returns
returns c =
    let e : IsEdit c.args.layers.now c.args.id (edited c.args.op.now) c.in-Some.place c.at-layer.result c.edited.result =
    edit_at c.args.layers.now c.args.id (edited c.args.op.now) c.in-Some.place c.at-layer.result c.edited.result c.in-Some.ensures.distinct c.in-Some.ensures.place c.at-layer.ensures c.edited.ensures (ap (λ l. l.number) c.edited.ensures ∙ edited_number c.args.op.now c.at-layer.result) in
    rw c.set.ensures (edited_layer-fits c.args.layers.now c.args.id c.args.op.now c.in-Some.place c.at-layer.result c.edited.result e (sym c.fits_kind.ensures ∙ grind arith), (e.inside, e.number), e.back)
