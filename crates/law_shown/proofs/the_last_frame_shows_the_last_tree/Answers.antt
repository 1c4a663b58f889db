use Rattle.law_shown.proofs.LastTree.{last_tree}
use Rattle.law_shown.proofs.the_last_frame_shows_the_last_tree.Goals as goal

pub returns : goal.returns
returns c = λ run. last_tree run.tells run.scene run.records run.played
