use Rattle.law_played.proofs.SeenLemmas.{reached_is, seen_is}
use Rattle.law_played.proofs.handlers.values_are_seen.Goals as goal

pub returns-clause-shown : goal.returns-clause-shown
returns-clause-shown c = λ scene seen report is. seen_is scene seen report is.all is.shows is.no_others

pub returns-clause-reached : goal.returns-clause-reached
returns-clause-reached c = λ seen points is. reached_is seen points is.all is.from_1 is.greatest_is
