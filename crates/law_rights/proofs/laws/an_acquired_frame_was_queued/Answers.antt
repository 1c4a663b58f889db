use Rattle.law_rights.proofs.AcquiredRights.{acquired_queued}
use Rattle.law_rights.proofs.laws.an_acquired_frame_was_queued.Goals as goal

pub returns : goal.returns
returns g c = acquired_queued
