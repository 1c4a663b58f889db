use Rattle.law_images.proofs.CutTwice.{cut_twice}
use Rattle.law_images.proofs.laws.cutting_twice_is_cutting_once.Goals as goal

pub returns : goal.returns
returns c = cut_twice
