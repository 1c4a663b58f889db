use Rattle.law_played.proofs.PlayEnds.{has_records, records_on}
use Rattle.law_played.proofs.ongoing.a_play_has_records.Goals as goal

pub returns-clause-has : goal.returns-clause-has
returns-clause-has c = λ scene playing limits begun.
    let has = has_records scene playing limits begun in
    record { records = has.0; are = has.1; begin_so = has.2 }

pub returns-clause-go_on : goal.returns-clause-go_on
returns-clause-go_on c = records_on
