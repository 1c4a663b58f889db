use Rattle.law_played.proofs.PlayEnds.{timed_records}
use Rattle.law_played.proofs.ongoing.a_scene_has_a_play.Goals as goal

pub returns : goal.returns
returns c = timed_records
