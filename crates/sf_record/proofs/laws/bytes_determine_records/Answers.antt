use Rattle.sf_record.proofs.ReadingLemmas.{determined}
use Rattle.sf_record.proofs.laws.bytes_determine_records.Goals as goal

pub returns : goal.returns
returns c = determined
