use Rattle.std.proofs.Common.{◌∙◌}
use Rattle.std.proofs.lemmas.Iterator.Adapters.{position_from-zero}
use Rattle.sf_txn.specs.Transactions.{replaces}
use Rattle.sf_txn.proofs.index.place_of.Goals as goal

pub returns-in-None : goal.returns-in-None
returns-in-None c = c.place_of_op.ensures ∙ position_from-zero (replaces c.args.operation.now) c.args.ops.now
