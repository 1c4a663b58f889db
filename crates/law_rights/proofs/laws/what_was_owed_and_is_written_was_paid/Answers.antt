use Rattle.law_rights.proofs.PaidDrawings.{owed_was_paid}
use Rattle.law_rights.proofs.laws.what_was_owed_and_is_written_was_paid.Goals as goal

pub returns : goal.returns
returns g c = λ owed.
    owed_was_paid owed.pictures owed.home owed.view owed.ofs owed.keep owed.apart owed.of owed.there owed.queue owed.frame owed.at owed.queues owed.undrawn owed.wrote
