use Rattle.law_draws.proofs.EmptyRun.{rights_begin}
use Rattle.law_draws.proofs.laws.rights_stand_at_the_beginning.Goals as goal

pub returns : goal.returns
returns g c = λ begun.
    let now = begun.now in
    rights_begin begun.scene begun.calls begun.buffers now.home now.view now.ofs now.handler begun.apart begun.begins
