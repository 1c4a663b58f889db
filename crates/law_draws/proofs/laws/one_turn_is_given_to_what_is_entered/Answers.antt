use Rattle.law_draws.proofs.TurnsGiven.{given_once}
use Rattle.law_draws.proofs.laws.one_turn_is_given_to_what_is_entered.Goals as goal

pub returns : goal.returns
returns g c = λ turns.
    given_once turns.pictures turns.home turns.view turns.of turns.keeps turns.at turns.there turns.place turns.enters turns.turn turns.other turns.given turns.also
