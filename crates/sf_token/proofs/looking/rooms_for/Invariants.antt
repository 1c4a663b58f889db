use Rattle.std.proofs.Common.{◌≡◌, ◌++◌, IsSome, map, vec_capacity, vec_len}
use Rattle.std.specs.BTreeMap.{values}
use Rattle.std.specs.List.{AllByRecursion}
use Rattle.slab.specs.Slab.{get}
use Rattle.sf_token.specs.inner.Rooms.{HasRoom}
use Rattle.sf_token.specs.declared.looking.Room.{Room}
use Rattle.sf_token.proofs.looking.rooms_for.Given as goal

abbrev pub invariant-loop-key : goal.invariant-loop-key
invariant-loop-key g l = record {
  keys : map (λ (room : Room). room.key) l.rooms.items ++ l.key-iterator ≡ values l.keys;
  taken : AllByRecursion (λ key. IsSome (get l.slots key)) l.key-iterator;
  rooms : AllByRecursion (λ (room : Room). HasRoom (get l.slots room.key) (vec_len room.drawn) (vec_capacity room.drawn)) l.rooms.items;
}
