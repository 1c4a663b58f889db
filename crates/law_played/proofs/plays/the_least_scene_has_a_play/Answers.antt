use Rattle.law_played.proofs.PlayedLeast.{is_play, state_6}
use Rattle.law_played.proofs.plays.the_least_scene_has_a_play.Goals as goal

pub returns : goal.returns
returns c = (state_6, is_play)
