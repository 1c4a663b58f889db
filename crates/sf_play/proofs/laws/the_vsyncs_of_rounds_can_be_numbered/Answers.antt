use Rattle.sf_play.proofs.VsyncNumbers.{rounds_numbered}
use Rattle.sf_play.proofs.laws.the_vsyncs_of_rounds_can_be_numbered.Goals as goal

pub returns : goal.returns
returns g c = rounds_numbered
