use Rattle.law_images.proofs.CopyCounts.{added, added_length, none_written}
use Rattle.law_images.proofs.laws.mirrors_add_copies.Goals as goal

pub returns-clause-none : goal.returns-clause-none
returns-clause-none c = none_written

pub returns-clause-behind : goal.returns-clause-behind
returns-clause-behind c = λ tree pairs. ((added tree pairs).more, (added tree pairs).is)

pub returns-clause-few : goal.returns-clause-few
returns-clause-few c = added_length
