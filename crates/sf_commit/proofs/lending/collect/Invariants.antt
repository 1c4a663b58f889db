use Rattle.std.proofs.Common.{◌≡◌, ◌≤◌, drop, length, map, take, vec_capacity, vec_len}
use Rattle.sf_commit.specs.Leases.{pictures, pictures_here}
use Rattle.sf_commit.specs.Lending.{AreThere, read_of}
use Rattle.sf_commit.proofs.lending.collect.Given as goal

abbrev pub invariant-loop-reading : goal.invariant-loop-reading
invariant-loop-reading g l = record {
  made : l.contents.items ≡ pictures g.L.Lease (take l.reading-index l.fn.on);
  stayed : l.stayed.rest.items ≡ pictures_here g.L.Lease (drop l.reading-index l.fn.on);
  there : AreThere g.L.Lease l.slots.items (map read_of (drop l.reading-index l.fn.on));
  many : vec_len l.contents ≡ l.reading-index;
  room : length l.fn.on ≤ vec_capacity l.contents;
  slots : vec_capacity l.slots ≡ vec_capacity l.fn.slots;
}
