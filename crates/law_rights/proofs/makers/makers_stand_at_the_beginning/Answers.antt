use Rattle.law_rights.proofs.MakersBeginning.{makers_begin}
use Rattle.law_rights.proofs.makers.makers_stand_at_the_beginning.Goals as goal

pub returns : goal.returns
returns g c = λ buffers now run most begins. makers_begin buffers now.home now.view now.ofs now.handler begins run most
