use Rattle.sf_slots.proofs.laws.refusals_are_listed.Goals as goal
use Rattle.sf_slots.proofs.RefusalTable.{refusal_listed}

pub returns : goal.returns
returns c = refusal_listed
