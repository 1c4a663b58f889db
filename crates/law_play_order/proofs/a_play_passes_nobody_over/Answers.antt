use Rattle.law_play_order.proofs.NoneLeft.{play_leaves_none}
use Rattle.law_play_order.proofs.a_play_passes_nobody_over.Goals as goal

pub returns : goal.returns
returns c = λ play limits. play_leaves_none play.scene play.events play.state limits play.is
