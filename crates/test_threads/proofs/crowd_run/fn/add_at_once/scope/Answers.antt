use Rattle.std.proofs.Common.{◌∷◌}
use Rattle.test_threads.proofs.CrowdLemmas.{next_is_new}
use Rattle.test_threads.proofs.crowd_run.fn.add_at_once.scope.Goals as goal

pub split-pass-requires : goal.split-pass-requires
split-pass-requires g c =
    let i = c.loop-last.invariant in record {
      own = i.0;
      first = i.1;
      fresh = next_is_new c.loop-last.last (c.loop-last.first.by ∷ c.loop-last.first.gave) i.3;
    }
