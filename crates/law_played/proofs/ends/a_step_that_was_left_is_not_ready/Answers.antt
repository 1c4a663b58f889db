use Rattle.law_played.proofs.StuckActors.{left_not_ready}
use Rattle.law_played.proofs.ends.a_step_that_was_left_is_not_ready.Goals as goal

pub returns : goal.returns
returns g c = λ left.
    let actors = left.actors in
    left_not_ready actors.scene actors.ofs actors.home left.before actors.view left.old left.new left.limits left.exact actors.are left.calls left.signals
    left.there left.older left.leaves
