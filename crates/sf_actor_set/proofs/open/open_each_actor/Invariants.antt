use Rattle.std.proofs.Common.{◌≡◌, length}
use Rattle.sf_actor_set.proofs.OpeningLemmas.{IsOpening}
use Rattle.sf_actor_set.proofs.open.open_each_actor.Given as goal

abbrev pub invariant-loop-script : goal.invariant-loop-script
invariant-loop-script g l = record {
  can_next : (goal.iterator-loop-script g).can_next l.script-iterator;
  is_finite : (goal.iterator-loop-script g).is_finite l.script-iterator;
  own : l.stock.table ≡ g.B.TableName.table;
  opening : IsOpening {B = g.row.B.Denot} g.B.TableName.table l.fn.scripts.items l.fn.stock.buffers (length l.yielded) l.actors.items l.stock.buffers;
}
