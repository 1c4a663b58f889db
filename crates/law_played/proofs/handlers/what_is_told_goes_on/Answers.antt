use Rattle.law_played.proofs.LeaseLemmas.{images_go_on, releases_go_on}
use Rattle.law_played.proofs.handlers.what_is_told_goes_on.Goals as goal

pub returns-clause-releases : goal.returns-clause-releases
returns-clause-releases c = λ added. releases_go_on added.told added.later added.report added.tree added.gone added.adds

pub returns-clause-images : goal.returns-clause-images
returns-clause-images c = λ scene added shown same. images_go_on scene added.told added.later added.report added.tree added.gone added.adds shown same
