use Rattle.std.proofs.Common.{◌≡◌, ◌∙◌, List, ap}
use Rattle.sf_base.specs.declared.ids.LayerId.{LayerId}
use Rattle.sf_layer.specs.declared.op.Op.{Op}
use Rattle.sf_txn.specs.Places.{Listed, kept}
use Rattle.sf_txn.specs.Transactions.{with_op}
use Rattle.sf_txn.proofs.Apart.{stay-with_op}
use Rattle.sf_txn.proofs.Places.{kept-put, kept-with_op}
use Rattle.sf_txn.proofs.ops.Ops.put.Goals as goal

pub invariant_of-self-in-None : goal.invariant_of-self-in-None
invariant_of-self-in-None c =
    let items = c.self.inside.items.items in
    let whole : kept items ≡ items = c.self.invariant.whole c.in-None.is in
    record {
      apart = rw c.put_op.ensures.items (stay-with_op items c.args.operation c.self.invariant.apart);
      indexed = rw c.in-None.is tt;
      whole = λ none. rw c.put_op.ensures.items (kept-with_op c.args.operation items c.requires.layer ∙ ap (λ (l : List (LayerId × Op)). with_op l c.args.operation) whole);
    }

pub returns-in-Some-clause-list : goal.returns-in-Some-clause-list
returns-in-Some-clause-list c =
    rw c.put_last.ensures.items (kept-put c.args.operation c.self.inside.items.items c.requires.layer) ∙ ap (λ (l : Listed). with_op l.list c.args.operation) c.self.view_is

pub returns-in-None-clause-list : goal.returns-in-None-clause-list
returns-in-None-clause-list c =
    rw c.put_op.ensures.items (kept-with_op c.args.operation c.self.inside.items.items c.requires.layer) ∙ ap (λ (l : Listed). with_op l.list c.args.operation) c.self.view_is
