use Rattle.law_played.proofs.PlayEnds.{play_ends}
use Rattle.law_played.proofs.ongoing.a_play_ends.Goals as goal

pub returns : goal.returns
returns c = play_ends
