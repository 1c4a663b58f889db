use Rattle.std.proofs.Common.{◌≡◌, reverse, vec_capacity, vec_len}
use Rattle.sf_commit.proofs.LendLemmas.{Left}
use Rattle.sf_commit.proofs.lending.leave_all.Given as goal

abbrev pub invariant-loop-one : goal.invariant-loop-one
invariant-loop-one g l = record {
  so : Left g.L.Lease l.fn.slots.items l.fn.kept.items (reverse l.left.items) l.fn.eye l.eye l.slots.items;
  room : vec_capacity l.slots ≡ vec_capacity l.fn.slots;
}

abbrev pub decreases-loop-one : goal.decreases-loop-one
decreases-loop-one g l = vec_len l.left
