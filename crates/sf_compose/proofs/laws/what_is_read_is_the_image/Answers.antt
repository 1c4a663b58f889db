use Rattle.sf_compose.proofs.ReadingLemmas.{AreReadable-sources, read_image-same}
use Rattle.sf_compose.proofs.laws.what_is_read_is_the_image.Goals as goal

pub returns-clause-readable : goal.returns-clause-readable
returns-clause-readable c = AreReadable-sources

pub returns-clause-image : goal.returns-clause-image
returns-clause-image c = λ picture view contents sources has x y. read_image-same picture view contents sources x y has
