use Rattle.law_joins.proofs.Fronts.{known_before}
use Rattle.law_joins.proofs.laws.what_seats_knew_is_known_at_the_join.Goals as goal

pub returns : goal.returns
returns g c = λ vsync. known_before _ vsync.table vsync.locks vsync.period vsync.before vsync.after vsync.is vsync.joined vsync.arriving vsync.known
