use Rattle.std.proofs.Common.{arith}
use Rattle.std.proofs.lemmas.Bool.{eqb-true}
use Rattle.sf_picture.proofs.SpanLemmas.{ShowsNothing-unfilled}
use Rattle.sf_picture.proofs.painted.shows_nothing.Goals as goal

pub returns-in-Rgba : goal.returns-in-Rgba
returns-in-Rgba c = λ none. ShowsNothing-unfilled _ c.in-Rgba.is (omega (arith, eqb-true _ 0 none, c.len.ensures))
