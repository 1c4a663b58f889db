use Rattle.law_played.proofs.PlayEnds.{begin_so, one_records}
use Rattle.law_played.proofs.ongoing.play_records_are_one.Goals as goal

pub returns-clause-one : goal.returns-clause-one
returns-clause-one c = one_records

pub returns-clause-begin : goal.returns-clause-begin
returns-clause-begin c = begin_so
