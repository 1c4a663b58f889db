use Rattle.std.proofs.Common.{arith}
use Rattle.sf_compose.proofs.PaintLemmas.{its_point}
use Rattle.sf_compose.proofs.band.area_of.Goals as goal

pub returns-clause-points : goal.returns-clause-points
returns-clause-points c = λ x y wide low high. its_point 0 c.args.band.width c.args.band.top c.args.band.bottom x y (omega arith) wide low high
