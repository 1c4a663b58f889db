use Rattle.law_rights.proofs.MakersTelling.{makers_tell}
use Rattle.law_rights.proofs.makers.makers_that_are_followed_tell.Goals as goal

pub returns : goal.returns
returns g c = makers_tell
