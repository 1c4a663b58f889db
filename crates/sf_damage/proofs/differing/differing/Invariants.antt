use Rattle.std.proofs.Common.{◌≡◌, ◌+◌, ◌-◌, ◌<◌, ◌≤◌, [], drop, false, length}
use Rattle.std.specs.List.{All}
use Rattle.std.specs.Vec.{vec_len}
use Rattle.sf_damage.specs.inner.Comparing.{IsOpen, IsTold, has_piece}
use Rattle.sf_damage.proofs.differing.differing.Given as goal

abbrev pub invariant-loop-at : goal.invariant-loop-at
invariant-loop-at l = record {
  inside : l.at ≤ length l.olds;
  none : l.above.items ≡ [];
  told : IsTold (record { olds = l.fn.olds; news = l.fn.news; part = l.fn.part }) (drop l.at l.olds) l.news (λ x y. false) l.pieces.items l.found.items;
}

abbrev pub decreases-loop-at : goal.decreases-loop-at
decreases-loop-at l = length l.olds - l.at

abbrev pub invariant-loop-piece : goal.invariant-loop-piece
invariant-loop-piece l = record {
  inside : l.at < length l.olds;
  are_open : All (IsOpen (record { olds = l.fn.olds; news = l.fn.news; part = l.fn.part }) (drop l.at l.olds) l.news) l.pieces.items;
  told : IsTold (record { olds = l.fn.olds; news = l.fn.news; part = l.fn.part }) (drop (l.at + 1) l.olds) l.news (has_piece l.pieces.items) l.above.items l.found.items;
}

abbrev pub decreases-loop-piece : goal.decreases-loop-piece
decreases-loop-piece l = vec_len l.pieces

abbrev pub invariant-loop-piece-2 : goal.invariant-loop-piece-2
invariant-loop-piece-2 l = record {
  are_open : All (IsOpen (record { olds = l.fn.olds; news = l.fn.news; part = l.fn.part }) [] l.news) l.pieces.items;
  told : IsTold (record { olds = l.fn.olds; news = l.fn.news; part = l.fn.part }) [] l.news (has_piece l.pieces.items) [] l.found.items;
}

abbrev pub decreases-loop-piece-2 : goal.decreases-loop-piece-2
decreases-loop-piece-2 l = vec_len l.pieces
