use Rattle.law_rights.proofs.QueueSteps.{queued_by_one}
use Rattle.law_rights.proofs.laws.a_frame_is_queued_by_one_step.Goals as goal

pub returns : goal.returns
returns g c = λ twice.
    queued_by_one twice.pictures twice.home twice.view twice.of twice.other twice.keeps twice.keeps_too twice.queue twice.frame twice.at twice.too twice.queues twice.queues_too
