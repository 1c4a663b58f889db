use Rattle.std.proofs.Common.{◌≡◌, ◌++◌, map, take, drop, None, length}
use Rattle.sf_slots.proofs.limits.drop_rights.Given as goal

abbrev pub invariant-loop-at : goal.invariant-loop-at
invariant-loop-at g l = record {
  changed : l.rights.items ≡ map (λ right. None) (take l.at l.initial.rights.items) ++ drop l.at l.initial.rights.items;
  sized : length l.rights.items ≡ 64;
}
