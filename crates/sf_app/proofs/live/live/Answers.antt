use Rattle.std.proofs.Common.{refl}
use Rattle.sf_live.proofs.RunLemmas.{ended_wanting}
use Rattle.sf_live.proofs.CutRuns.{cut_nothing}
use Rattle.sf_app.proofs.live.live.Goals as goal

pub returns-in-Err : goal.returns-in-Err
returns-in-Err g c = ended_wanting _ c.args.scene _ _ _ (cut_nothing _ c.args.scene _ _ refl)
