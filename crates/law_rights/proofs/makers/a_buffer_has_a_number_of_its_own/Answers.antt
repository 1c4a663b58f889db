use Rattle.law_rights.proofs.MakersNumbering.{newly_made}
use Rattle.law_rights.proofs.makers.a_buffer_has_a_number_of_its_own.Goals as goal

pub returns : goal.returns
returns g c = newly_made
