use Rattle.std.proofs.Common.{◌-◌, length}
use Rattle.sf_damage.proofs.ComparingLemmas.{Goes, LiesIn}
use Rattle.sf_damage.proofs.differing.compare_clip.Given as goal

abbrev pub invariant-loop-at : goal.invariant-loop-at
invariant-loop-at l = record {
  lies : LiesIn l.old l.rest;
  goes : Goes l.old l.news l.fn.piece l.fn.above.items l.fn.found.items l.at l.rest l.above.items l.found.items;
}

abbrev pub decreases-loop-at : goal.decreases-loop-at
decreases-loop-at l = length l.news - l.at
