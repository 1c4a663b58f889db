use Rattle.std.proofs.Common.{◌≡◌, ◌+◌, ◌≤◌, true, length, is_ok, refl, sym, arith}
use Rattle.std.proofs.lemmas.Grind.{common_steps}
use Rattle.sf_txn.proofs.Distinct.{apart-buffers}
use Rattle.sf_txn.proofs.TransactionKept.{IsTransaction-merged}
use Rattle.sf_txn.proofs.transaction.Transaction.merge.Goals as goal

pub invariant_of-self-2 : goal.invariant_of-self-2
invariant_of-self-2 g c =
    let few : length c.self.inside.ops.list + length c.other.inside.ops.list ≤ 4294967295 = grind (arith, common_steps) in
    let ok : is_ok c.extend_from_slice.result ≡ true = grind (arith, common_steps) in
    rw (c.merge.ensures, c.merge_buffers.ensures.buffers, c.replace-ops.ensures.value, c.replace-buffers.ensures.value, c.make_room_for.ensures.list, c.make_room_for.ensures.later, c.extend_from_slice.ensures.items, c.later_time-self-inside.ensures, c.reserve.ensures.items, c.deref.ensures.value, ok)
    (IsTransaction-merged _ _ c.self.invariant c.other.invariant few)

pub returns-clause-merged : goal.returns-clause-merged
returns-clause-merged g c =
    let ok : is_ok c.extend_from_slice.result ≡ true = grind (arith, common_steps) in
    rw (c.merge.ensures, c.merge_buffers.ensures.buffers, c.replace-ops.ensures.value, c.replace-buffers.ensures.value, c.make_room_for.ensures.list, c.make_room_for.ensures.later, c.extend_from_slice.ensures.items, c.later_time-self-inside.ensures, c.reserve.ensures.items, sym c.self.view_is, sym c.other.view_is, c.deref.ensures.value, ok)
    refl

pub merge_buffers-requires-clause-apart : goal.merge_buffers-requires-clause-apart
merge_buffers-requires-clause-apart g c = rw c.replace-buffers.ensures.value (apart-buffers _ c.other.invariant)
