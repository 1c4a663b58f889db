use Rattle.law_rights.proofs.InTurnBeginning.{draws_begin}
use Rattle.law_rights.proofs.turns.draws_stand_at_the_beginning.Goals as goal

pub returns : goal.returns
returns g c = λ scene buffers now begins. draws_begin scene buffers now.home now.view now.ofs now.handler begins
