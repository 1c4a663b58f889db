use Rattle.std.proofs.Common.{refl}
use Rattle.law_rights.proofs.ReadLeases.{vsync_keeps}
use Rattle.law_rights.proofs.laws.a_vsync_keeps_the_ledger.Goals as goal

pub returns-clause-turns : goal.returns-clause-turns
returns-clause-turns g c = record { end = λ l. refl; next_end = λ l. refl; ends = λ eye. refl }

pub returns-clause-keeps : goal.returns-clause-keeps
returns-clause-keeps g c = vsync_keeps _
