use Rattle.law_played.proofs.GoingOn.{plays_on}
use Rattle.law_played.proofs.ongoing.a_play_goes_on.Goals as goal

pub returns : goal.returns
returns c = plays_on
