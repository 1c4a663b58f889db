use Rattle.law_waits.proofs.PassedArrivals.{in_order}
use Rattle.law_waits.proofs.what_commits_in_order_leaves_none.Goals as goal

pub returns : goal.returns
returns c = in_order
