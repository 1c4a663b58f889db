use Rattle.std.proofs.Common.{◌≡◌, ◌++◌, length}
use Rattle.sf_commit_next.proofs.next.ask_again.Given as goal

-- what is left and what is asked again are, one behind the other, what they were
abbrev pub invariant-loop-number : goal.invariant-loop-number
invariant-loop-number l = (l.left.items ++ l.asking) ≡ (l.fn.stopped.items ++ l.fn.asking)

abbrev pub decreases-loop-number : goal.decreases-loop-number
decreases-loop-number l = length l.left.items
