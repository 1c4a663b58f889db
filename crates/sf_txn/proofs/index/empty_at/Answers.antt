use Rattle.std.proofs.Common.{◌∙◌, sym, arith}
use Rattle.sf_txn.proofs.Places.{emptied-None, emptied-Some, emptied-inside}
use Rattle.sf_txn.proofs.index.empty_at.Goals as goal

pub index_mut-requires : goal.index_mut-requires
index_mut-requires c = omega (arith, emptied-inside c.args.operation.now c.in-Some.place c.args.items.now.items (sym c.in-Some.is ∙ c.requires), c.args.items.now.ok.0)

pub returns-in-Some-clause-items : goal.returns-in-Some-clause-items
returns-in-Some-clause-items c = emptied-Some c.args.operation.now c.in-Some.place c.args.items.now.items (sym c.in-Some.is ∙ c.requires)

pub returns-in-None-clause-items : goal.returns-in-None-clause-items
returns-in-None-clause-items c = emptied-None c.args.operation.now c.args.items.now.items (sym c.in-None.is ∙ c.requires)
