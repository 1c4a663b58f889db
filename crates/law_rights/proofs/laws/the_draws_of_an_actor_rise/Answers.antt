use Rattle.law_rights.proofs.DrawOrder.{draws_rise}
use Rattle.law_rights.proofs.laws.the_draws_of_an_actor_rise.Goals as goal

pub returns : goal.returns
returns g c = λ draws.
    draws_rise draws.share draws.trace draws.in_turn draws.one draws.other draws.there draws.also draws.before draws.place draws.later draws.entered draws.entered_later
