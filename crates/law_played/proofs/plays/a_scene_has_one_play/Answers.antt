use Rattle.law_played.proofs.PlayLemmas.{comes_on, one_line, one_play}
use Rattle.law_played.proofs.plays.a_scene_has_one_play.Goals as goal
use Rattle.law_played.specs.Plays.{first_playing}

pub returns-clause-one : goal.returns-clause-one
returns-clause-one c = λ scene play other. one_play scene play.events other.events play.state other.state play.is other.is

pub returns-clause-begun : goal.returns-clause-begun
returns-clause-begun c = λ scene some other begun also. one_line scene (first_playing scene) some other begun also

pub returns-clause-more : goal.returns-clause-more
returns-clause-more c = λ scene playing next begun on. comes_on scene (first_playing scene) playing next begun on
