use Rattle.std.proofs.Common.{◌≡◌, ◌+◌, ◌++◌, ◌≤◌, ℕ, List, map, vec_capacity, vec_len}
use Rattle.std.specs.List.{AllByRecursion}
use Rattle.std.specs.Vec.Iter.{into_iter_items, into_iter_len}
use Rattle.slab.specs.Slab.{get}
use Rattle.sf_token.specs.inner.Rooms.{AreLooked, Fits, HasRoom}
use Rattle.sf_token.specs.declared.looking.Room.{Room}
use Rattle.sf_token.proofs.looking.look_each.Given as goal

abbrev pub invariant-loop-room : goal.invariant-loop-room
invariant-loop-room g l = record {
  can : (goal.iterator-loop-room g).can_next l.room-iterator;
  finite : (goal.iterator-loop-room g).is_finite l.room-iterator;
  looked : (done : List ℕ)
      × (done ++ map (λ (room : Room). room.key) (into_iter_items l.room-iterator) ≡ map (λ (room : Room). room.key) l.fn.rooms.items)
      × AreLooked g.L.Lease l.fn.eye l.eye (get l.fn.slots) (get l.slots) done l.looks.items;
  same : AllByRecursion (λ (room : Room). get l.slots room.key ≡ get l.fn.slots room.key) (into_iter_items l.room-iterator);
  rooms : AllByRecursion (λ (room : Room). HasRoom (get l.fn.slots room.key) (vec_len room.drawn) (vec_capacity room.drawn)) (into_iter_items l.room-iterator);
  fits : AllByRecursion (λ (room : Room). Fits (g.L.Lease.fits (g.L.Lease.mark l.fn.eye)) (get l.fn.slots room.key)) (into_iter_items l.room-iterator);
  room : vec_len l.looks + into_iter_len l.room-iterator ≤ vec_capacity l.looks;
}
