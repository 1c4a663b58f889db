use Rattle.std.proofs.Common.{◌+◌, ◌≤◌, length, vec_capacity, vec_len}
use Rattle.sf_commit.proofs.SettleLemmas.{Released}
use Rattle.sf_commit.proofs.settle.release_all.Given as goal

abbrev pub invariant-loop-one : goal.invariant-loop-one
invariant-loop-one g l = record {
  so : Released g.L.Lease l.fn.gone.items l.releases.items l.one-iterator.rest.items l.fn.kept.items l.kept.items;
  room : vec_len l.kept + length l.one-iterator.rest.items ≤ vec_capacity l.kept;
}
