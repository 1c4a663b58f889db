use Rattle.law_rights.proofs.MakersKeeping.{queue_keeps}
use Rattle.law_rights.proofs.makers.a_queued_frame_keeps_makers.Goals as goal

pub returns : goal.returns
returns c = λ so new write queues made. queue_keeps so.run so.most so.stays so.places new so.are write queues made
