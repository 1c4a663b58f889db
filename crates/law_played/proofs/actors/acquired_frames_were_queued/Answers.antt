use Rattle.law_played.proofs.AcquiredFrames.{was_queued}
use Rattle.law_played.proofs.actors.acquired_frames_were_queued.Goals as goal

pub returns : goal.returns
returns g c = λ mark calls taken legal. was_queued mark calls taken.made taken.lease legal taken.there taken.takes
