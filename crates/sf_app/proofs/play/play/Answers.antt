use Rattle.sf_live.proofs.RunLemmas.{wanting}
use Rattle.sf_app.proofs.StatusLemmas.{cut_unbegun}
use Rattle.sf_app.proofs.play.play.Goals as goal

pub returns-in-Ok : goal.returns-in-Ok
returns-in-Ok g c = c.show_play.ensures

pub returns-in-Err : goal.returns-in-Err
returns-in-Err g c = wanting _ _ _ (cut_unbegun c.args.scene _ (rw c.scene.view_is at c.scene.invariant))
