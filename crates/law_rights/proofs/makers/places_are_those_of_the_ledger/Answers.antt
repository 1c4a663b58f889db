use Rattle.law_rights.proofs.MakersTurns.{turns_of, writes_of}
use Rattle.law_rights.proofs.makers.places_are_those_of_the_ledger.Goals as goal

pub returns-clause-rights : goal.returns-clause-rights
returns-clause-rights g c = turns_of

pub returns-clause-writes : goal.returns-clause-writes
returns-clause-writes g c = writes_of
