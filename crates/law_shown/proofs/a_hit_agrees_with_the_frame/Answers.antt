use Rattle.law_shown.proofs.FramePixels.{hit_seen, nothing_hit}
use Rattle.law_shown.proofs.a_hit_agrees_with_the_frame.Goals as goal

pub returns-clause-nothing : goal.returns-clause-nothing
returns-clause-nothing c = λ point. nothing_hit point.pictures point.plan point.layers point.x point.y point.no_mirrors point.inside_x point.inside_y

pub returns-clause-layer : goal.returns-clause-layer
returns-clause-layer c = λ point. hit_seen point.pictures point.plan point.layers point.x point.y point.no_mirrors point.inside_x point.inside_y
