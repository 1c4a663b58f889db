use Rattle.sf_live_threads.proofs.ActorWalk.{walk_leaves, walk_signals}
use Rattle.sf_live_threads.proofs.laws.seats_do_what_steps_do.Goals as goal

pub returns : goal.returns
returns g c = record {
  signals = λ pictures locks start last walk. walk_signals _ pictures locks start last walk;
  leaves = λ pictures locks start last walk. walk_leaves _ pictures locks start last walk;
}
