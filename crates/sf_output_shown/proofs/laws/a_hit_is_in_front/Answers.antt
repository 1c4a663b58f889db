use Rattle.sf_output_shown.proofs.HitLemmas.{in_front, off_display}
use Rattle.sf_output_shown.proofs.laws.a_hit_is_in_front.Goals as goal

pub returns-clause-here : goal.returns-clause-here
returns-clause-here c = λ at. in_front at.tree at.order at.width at.height at.view at.views at.x at.y at.inside_x at.inside_y

pub returns-clause-off : goal.returns-clause-off
returns-clause-off c = off_display
