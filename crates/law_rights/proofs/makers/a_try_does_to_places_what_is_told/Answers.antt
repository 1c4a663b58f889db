use Rattle.law_rights.proofs.TryKeepsLedger.{try_places}
use Rattle.law_rights.proofs.makers.a_try_does_to_places_what_is_told.Goals as goal

pub returns : goal.returns
returns g c = λ tried. try_places tried.pictures tried.home tried.place tried.s tried.came_to tried.before tried.after tried.old tried.new tried.tries
