use Rattle.law_played.proofs.RunTraces.{are_traced}
use Rattle.law_played.proofs.actors.actors_are_traced.Goals as goal

pub returns : goal.returns
returns g c = λ actors knows. are_traced actors.scene actors.ofs actors.home actors.view actors.are knows
