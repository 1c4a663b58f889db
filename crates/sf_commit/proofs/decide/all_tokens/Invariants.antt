use Rattle.std.proofs.Common.{length}
use Rattle.sf_commit.proofs.DecideLemmas.{AsksTokens}
use Rattle.sf_commit.proofs.decide.all_tokens.Given as goal

abbrev pub invariant-loop-token : goal.invariant-loop-token
invariant-loop-token g l = AsksTokens l.fn.queues.pending l.tokens.items l.asking

abbrev pub decreases-loop-token : goal.decreases-loop-token
decreases-loop-token g l = length l.tokens.items
