use Rattle.law_rights.proofs.TryKeepsLedger.{try_keeps}
use Rattle.law_rights.proofs.laws.a_try_keeps_the_ledger.Goals as goal

pub returns : goal.returns
returns g c = λ tried. try_keeps tried.pictures tried.home tried.place tried.s tried.came_to tried.before tried.after tried.old tried.new tried.tries
