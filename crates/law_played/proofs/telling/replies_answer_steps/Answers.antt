use Rattle.law_played.proofs.Parts.{answer_steps}
use Rattle.law_played.proofs.telling.replies_answer_steps.Goals as goal

pub returns : goal.returns
returns g c = λ actors events. answer_steps actors.scene actors.ofs actors.home actors.view events actors.are
