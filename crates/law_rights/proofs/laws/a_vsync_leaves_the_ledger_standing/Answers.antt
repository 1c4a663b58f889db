use Rattle.law_rights.proofs.VsyncLedger.{vsync_stands}
use Rattle.law_rights.proofs.laws.a_vsync_leaves_the_ledger_standing.Goals as goal

pub returns : goal.returns
returns g c = λ one. vsync_stands _ one.buffers one.before.home one.before.ofs one.before.view one.view one.before.handler one.handler one.vsync one.stands
