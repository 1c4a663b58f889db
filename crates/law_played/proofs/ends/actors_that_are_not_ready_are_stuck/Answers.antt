use Rattle.law_played.proofs.StuckActors.{are_stuck}
use Rattle.law_played.proofs.ends.actors_that_are_not_ready_are_stuck.Goals as goal
use Rattle.std.proofs.Common.{refl}
use Rattle.law_played.specs.Stopping.{stuck_among}

pub returns : goal.returns
returns g c = λ actors limits waiting. are_stuck actors.scene actors.ofs actors.home actors.view (stuck_among actors.ofs) limits actors.are refl waiting
