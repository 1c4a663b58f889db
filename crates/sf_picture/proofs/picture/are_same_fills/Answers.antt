use Rattle.sf_picture.proofs.SameLemmas.{fills_decide}
use Rattle.sf_picture.proofs.picture.are_same_fills.Goals as goal

pub returns : goal.returns
returns c = fills_decide _ _ _ c.eq.ensures
