use Rattle.law_played.proofs.KeepingLemmas.{none_played}
use Rattle.law_played.proofs.handlers.a_new_handler_has_played_nothing.Goals as goal

pub returns : goal.returns
returns g c = λ run width height. none_played run.frame run.scene run.written width height
