use Rattle.law_played.proofs.FrameLemmas.{frame_alone, in_version_1}
use Rattle.law_played.proofs.laws.a_scene_with_one_output_shows_its_frame.Goals as goal

pub returns-clause-shown : goal.returns-clause-shown
returns-clause-shown c = frame_alone

pub returns-clause-version_1 : goal.returns-clause-version_1
returns-clause-version_1 c = in_version_1
