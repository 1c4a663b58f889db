use Rattle.law_images.proofs.FrontLemmas.{black_behind, seen_in_front}
use Rattle.law_images.proofs.laws.a_hit_says_what_is_seen.Goals as goal

pub returns-clause-nothing : goal.returns-clause-nothing
returns-clause-nothing c = black_behind

pub returns-clause-layer : goal.returns-clause-layer
returns-clause-layer c = seen_in_front
