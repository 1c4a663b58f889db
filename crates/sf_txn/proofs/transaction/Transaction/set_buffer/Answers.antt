use Rattle.std.proofs.Common.{◌+◌, ◌≤◌, length, sym, arith}
use Rattle.sf_layer.specs.Ranges.{IsOperation}
use Rattle.sf_layer.specs.declared.op.Op.TheVariants as op
use Rattle.std.proofs.lemmas.Grind.{common_steps}
use Rattle.sf_txn.proofs.TransactionKept.{within_greatest, IsTransaction-set_buffer}
use Rattle.sf_txn.proofs.transaction.Transaction.set_buffer.Goals as goal

pub invariant_of-self-2 : goal.invariant_of-self-2
invariant_of-self-2 g c =
    let few : length c.self.inside.ops.list + 1 ≤ 4294967295 = grind (arith, common_steps) in
    let one : IsOperation (c.buffer.inside.layer, op.Show c.buffer.inside.shown) = (
      rw (sym c.buffer.view_is) at c.requires,
      within_greatest _ _ c.buffer.invariant.crop c.buffer.invariant.size,
    ) in
    rw (c.put.ensures.list, c.put_buffer.ensures.items, c.make_room.ensures.list, c.reserve.ensures.items, sym c.buffer.view_is)
    (IsTransaction-set_buffer _ _ c.self.invariant few one)
