use Rattle.std.proofs.Common.{◌≡◌, ◌∙◌, ◌++◌, ◌∷◌, ◌≤◌, [], List, Option, ap, length, subst, sym, arith}
use Rattle.std.specs.List.{AllPairs}
use Rattle.std.specs.Prelude.{option_to_list}
use Rattle.sf_base.specs.declared.ids.LayerId.{LayerId}
use Rattle.sf_layer.specs.declared.op.Op.{Op}
use Rattle.sf_txn.specs.Places.{kept}
use Rattle.sf_txn.specs.Transactions.{Stays, with_ops}
use Rattle.sf_txn.proofs.MergedOperations.{none-of, pairs-init, with_ops-none}
use Rattle.sf_txn.proofs.Places.{apart-kept}
use Rattle.sf_txn.proofs.index.put_all_first.Goals as goal

pub loop-operation-preserved : goal.loop-operation-preserved
loop-operation-preserved c =
    let s = c.in-Some.operation in
    let rest = c.pop.new.self.items in
    let items = c.loop-operation.items.items in
    let popped : c.loop-operation.earlier.items ≡ rest ++ s ∷ [] = c.pop.ensures.items ∙ ap (λ (o : Option (LayerId × Op)). rest ++ option_to_list o) c.in-Some.is in
    let apart : AllPairs Stays (rest ++ s ∷ []) = subst (AllPairs Stays) popped c.loop-operation.invariant.apart in
    let room : length (kept (rest ++ s ∷ [])) ≤ c.loop-operation.index.front = subst (λ (xs : List (LayerId × Op)). length (kept xs) ≤ c.loop-operation.index.front) popped c.loop-operation.invariant.room in
    record {
      list = c.put_first.ensures.items rest apart ∙ (ap (λ (xs : List (LayerId × Op)). with_ops (kept xs) (kept items)) (sym popped) ∙ c.loop-operation.invariant.list);
      apart = pairs-init rest s apart;
      room = c.put_first.ensures.room rest room;
      indexed = c.put_first.ensures.indexed;
    }

pub returns-clause-items : goal.returns-clause-items
returns-clause-items c =
    let items = c.loop-operation.items.items in
    let none = none-of c.loop-operation.earlier.items (omega (arith, c.loop-operation.earlier.ok.0, c.in_default.ensures.cases.0)) in
    sym (with_ops-none (kept items) (apart-kept items c.loop-operation.invariant.indexed.apart))
    ∙ (ap (λ (xs : List (LayerId × Op)). with_ops (kept xs) (kept items)) (sym none) ∙ c.loop-operation.invariant.list)
