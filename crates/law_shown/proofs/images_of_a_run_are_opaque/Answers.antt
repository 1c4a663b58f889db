use Rattle.law_shown.proofs.OpaqueRecords.{opaque_records}
use Rattle.law_shown.proofs.images_of_a_run_are_opaque.Goals as goal

pub returns : goal.returns
returns c = opaque_records
