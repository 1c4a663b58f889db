use Rattle.std.proofs.Common.{[]}
use Rattle.test_threads.proofs.IntakeLemmas.{fresh}
use Rattle.test_threads.proofs.intake_run.make_senders.Goals as goal

pub sender-requires-clause-fresh : goal.sender-requires-clause-fresh
sender-requires-clause-fresh c = fresh 1 _ [] c.requires.none tt
