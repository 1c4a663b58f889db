use Rattle.std.proofs.Common.{◌∙◌, sym, ap, subst, ℕ, List}
use Rattle.std.specs.List.{find}
use Rattle.std.specs.Map.{values_of}
use Rattle.std.specs.Option.{option_and_then}
use Rattle.slab.specs.Slab.{get}
use Rattle.sf_txn.specs.Transactions.{without_first}
use Rattle.sf_token.specs.Pending.{has_number}
use Rattle.sf_token.specs.Slots.{AreFiled, picked}
use Rattle.sf_token.proofs.StoreLemmas.{AreFiled-remove, find-filed, picked-remove, picked-rest}
use Rattle.sf_token.proofs.store.Store.remove.Goals as goal

pub invariant_of-self : goal.invariant_of-self
invariant_of-self g c =
    let f = get c.self.inside.slots in
    let new = get c.try_remove.new.self in (
      subst (λ (list : List (ℕ × ℕ)). AreFiled new list) (sym c.remove.ensures.entries)
          (AreFiled-remove f new c.in-Some.key c.try_remove.ensures.updates.others c.args.number c.self.inside.keys.entries (sym c.in-Some.ensures.value) c.self.invariant.0 c.self.invariant.1),
      c.remove.ensures.ordered,
    )

pub returns-in-Some-clause-gone : goal.returns-in-Some-clause-gone
returns-in-Some-clause-gone g c =
    let f = get c.self.inside.slots in
    c.try_remove.ensures.value ∙ ap (option_and_then f) c.in-Some.ensures.value
    ∙ sym (find-filed f c.args.number c.self.inside.keys.entries c.self.invariant.0) ∙ ap (find (has_number c.args.number)) c.self.view_is

pub returns-in-Some-clause-left : goal.returns-in-Some-clause-left
returns-in-Some-clause-left g c =
    let f = get c.self.inside.slots in
    let new = get c.try_remove.new.self in
    ap (λ list. picked new (values_of list)) c.remove.ensures.entries
    ∙ picked-remove f new c.in-Some.key c.try_remove.ensures.updates.others c.args.number c.self.inside.keys.entries (sym c.in-Some.ensures.value) c.self.invariant.0 c.self.invariant.1
    ∙ ap (without_first (has_number c.args.number)) c.self.view_is

pub returns-in-None-clause-gone : goal.returns-in-None-clause-gone
returns-in-None-clause-gone g c =
    let f = get c.self.inside.slots in
    ap (option_and_then f) c.in-None.ensures.value
    ∙ sym (find-filed f c.args.number c.self.inside.keys.entries c.self.invariant.0) ∙ ap (find (has_number c.args.number)) c.self.view_is

pub returns-in-None-clause-left : goal.returns-in-None-clause-left
returns-in-None-clause-left g c =
    let f = get c.self.inside.slots in
    ap (λ list. picked f (values_of list)) c.remove.ensures.entries
    ∙ picked-rest f c.args.number c.self.inside.keys.entries c.self.invariant.0
    ∙ ap (without_first (has_number c.args.number)) c.self.view_is
