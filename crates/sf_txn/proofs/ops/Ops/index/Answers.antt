use Rattle.std.proofs.Common.{◌≡◌, ◌∙◌, ◌++◌, List, ap, replicate, sym}
use Rattle.sf_base.specs.declared.ids.LayerId.{LayerId}
use Rattle.sf_layer.specs.declared.op.Op.{Op}
use Rattle.sf_txn.specs.Places.{Listed, kept, taken}
use Rattle.sf_txn.proofs.Fronts.{apart-replicate, kept-replicate, listed-behind}
use Rattle.sf_txn.proofs.Places.{apart-kept, kept-kept}
use Rattle.sf_txn.proofs.ops.Ops.index.Goals as goal

pub places_of-requires : goal.places_of-requires
places_of-requires c =
    let ops = kept c.self.inside.items.items in
    let list : ops ≡ c.args.self.now.list = ap (λ (l : Listed). l.list) c.self.view_is in
    let items : c.in_ok-items.items.items ≡ replicate c.args.front taken ++ ops =
    c.in_ok-items.ensures ∙ ap (λ (xs : List (LayerId × Op)). replicate c.args.front taken ++ xs) (c.deref.ensures.value ∙ (c.in_ok-copied.ensures ∙ sym list)) in
    rw (c.deref-2.ensures.value, items) (apart-replicate c.args.front ops (apart-kept c.self.inside.items.items c.self.invariant.apart))

pub invariant_of-self : goal.invariant_of-self
invariant_of-self c =
    let ops = kept c.self.inside.items.items in
    let list : ops ≡ c.args.self.now.list = ap (λ (l : Listed). l.list) c.self.view_is in
    let items : c.in_ok-items.items.items ≡ replicate c.args.front taken ++ ops =
    c.in_ok-items.ensures ∙ ap (λ (xs : List (LayerId × Op)). replicate c.args.front taken ++ xs) (c.deref.ensures.value ∙ (c.in_ok-copied.ensures ∙ sym list)) in
    listed-behind c.args.front ops c.in_ok-items.items.items c.in_ok-places.places c.in_ok-new.field-0 items (apart-kept c.self.inside.items.items c.self.invariant.apart)
    (rw c.deref-2.ensures.value at c.in_ok-places.ensures) c.in_ok-new.ensures.ok

pub returns-clause-list : goal.returns-clause-list
returns-clause-list c =
    let ops = kept c.self.inside.items.items in
    let list : ops ≡ c.args.self.now.list = ap (λ (l : Listed). l.list) c.self.view_is in
    let items : c.in_ok-items.items.items ≡ replicate c.args.front taken ++ ops =
    c.in_ok-items.ensures ∙ ap (λ (xs : List (LayerId × Op)). replicate c.args.front taken ++ xs) (c.deref.ensures.value ∙ (c.in_ok-copied.ensures ∙ sym list)) in
    ap (λ (xs : List (LayerId × Op)). kept xs) items ∙ (kept-replicate c.args.front ops ∙ (kept-kept c.self.inside.items.items ∙ list))
