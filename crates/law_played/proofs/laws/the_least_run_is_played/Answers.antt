use Rattle.law_played.proofs.Least.{is_played}
use Rattle.law_played.proofs.laws.the_least_run_is_played.Goals as goal

pub returns : goal.returns
returns c = is_played
