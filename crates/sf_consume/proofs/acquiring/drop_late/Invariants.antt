use Rattle.std.proofs.Common.{◌≡◌, ◌<◌, ◌+◌, length}
use Rattle.sf_slots.specs.Queue.{told_of}
use Rattle.sf_slots.specs.Replies.{dropped_count}
use Rattle.sf_slots.specs.Effects.{dropped_first}
use Rattle.sf_consume.proofs.acquiring.drop_late.Given as goal

abbrev pub invariant-loop-q : goal.invariant-loop-q
invariant-loop-q g l = record {
  after : l.q ≡ dropped_first l.dropped l.initial.q;
  count : dropped_count l.expected (told_of l.initial.q).items ≡ dropped_count l.expected (told_of l.q).items + l.dropped;
  few : l.dropped + length l.q.items ≡ length l.initial.q.items;
  left : 0 < length l.initial.q.items → 0 < length l.q.items;
}

abbrev pub decreases-loop-q : goal.decreases-loop-q
decreases-loop-q g l = length l.q.items
