use Rattle.law_played.proofs.Examples.{commits_are, held_are, releases_are}
use Rattle.law_played.proofs.laws.replaced_frames_go_back.Goals as goal

pub returns-clause-commits : goal.returns-clause-commits
returns-clause-commits c = commits_are

pub returns-clause-releases : goal.returns-clause-releases
returns-clause-releases c = releases_are

pub returns-clause-held : goal.returns-clause-held
returns-clause-held c = held_are
