use Rattle.law_rounds.proofs.StandsInOrder.{so_far}
use Rattle.law_rounds.proofs.a_player_has_come_so_far.Goals as goal

pub returns : goal.returns
returns g c = λ table scene so player tells stands order. so_far table scene so player stands tells order
