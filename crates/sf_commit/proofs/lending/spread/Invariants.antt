use Rattle.std.proofs.Common.{◌≡◌, ◌+◌, ◌≤◌, ◌++◌, Some, length, map, vec_capacity, vec_len}
use Rattle.sf_view.specs.sf_picture.declared.picture.Picture.{Picture}
use Rattle.sf_commit.proofs.lending.spread.Given as goal

abbrev pub invariant-loop-painted : goal.invariant-loop-painted
invariant-loop-painted l = record {
  made : l.slots.items ++ map (λ (picture : Picture). Some picture) l.painted-iterator.rest.items ≡ map (λ (picture : Picture). Some picture) l.fn.list.items;
  room : vec_len l.slots + length l.painted-iterator.rest.items ≤ vec_capacity l.slots;
  slots : vec_capacity l.slots ≡ vec_capacity l.fn.slots;
}
