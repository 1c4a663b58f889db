use Rattle.law_play_order.proofs.PlayOrder.{play_in_order}
use Rattle.law_play_order.proofs.a_play_is_in_one_order.Goals as goal

pub returns : goal.returns
returns c = λ play. play_in_order play.scene play.events play.state play.is
