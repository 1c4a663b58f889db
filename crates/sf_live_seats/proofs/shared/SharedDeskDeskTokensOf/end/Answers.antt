use Rattle.std.proofs.Common.{ap}
use Rattle.sf_live_seats.specs.Shared.{SharedOf, home_of}
use Rattle.sf_live_seats.proofs.shared.SharedDeskDeskTokensOf.end.Goals as goal

pub returns-clause-home : goal.returns-clause-home
returns-clause-home g c = ap (λ (d : SharedOf g.row.B.Denot). home_of d) c.self.view_is
