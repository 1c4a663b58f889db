use Rattle.std.proofs.Common.{◌+◌, ◌≤◌, length, arith}
use Rattle.std.proofs.lemmas.Grind.{common_steps}
use Rattle.sf_txn.proofs.TransactionKept.{IsTransaction-set}
use Rattle.sf_txn.proofs.transaction.Transaction.set.Goals as goal

pub invariant_of-self-2 : goal.invariant_of-self-2
invariant_of-self-2 g c =
    let few : length c.self.inside.ops.list + 1 ≤ 4294967295 = grind (arith, common_steps) in
    rw (c.put.ensures.list, c.make_room.ensures.list) (IsTransaction-set _ (c.args.layer, c.args.op) c.self.invariant few c.requires.in_range c.requires.plain)
