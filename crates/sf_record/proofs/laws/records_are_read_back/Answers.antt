use Rattle.sf_record.proofs.ReadingLemmas.{read_back}
use Rattle.sf_record.proofs.laws.records_are_read_back.Goals as goal

pub returns : goal.returns
returns c = read_back
