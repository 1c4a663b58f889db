use Rattle.law_played.proofs.Freedom.{order_is_free}
use Rattle.law_played.proofs.laws.the_order_of_replies_is_free.Goals as goal

pub returns : goal.returns
returns c = λ shown events alike fits. order_is_free shown.tells shown.scene shown.shows shown.run shown.arrivals events alike.vsyncs alike.replies fits
