use Rattle.law_rights.proofs.LookResults.{look_tells}
use Rattle.law_rights.proofs.laws.a_look_tells_what_was_written.Goals as goal

pub returns : goal.returns
returns c = λ look. look_tells look.buffers look.seen look.ledger look.lease look.is look.exact look.below look.queued
