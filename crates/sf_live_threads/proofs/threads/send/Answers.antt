use mir.Syntax.{named}
use denote.Exit.{yes}
use denote.Param.{param}
use denote.Param.Send.{arg_send, param_send}
use denote.Ref.{NamedLft}
use Rattle.sf_live_threads.specs.contracts.pacing.Pacing as pacing
use Rattle.sf_live_threads.proofs.pacing.Pacing.TheSendSync as pacing_shown
use Rattle.sf_live_threads.proofs.CrossingSeatedActors.{back_send}
use Rattle.sf_live_threads.proofs.CrossingSends.{taken_send}
use Rattle.sf_live_threads.proofs.threads.send.Goals as goal

pub spawn_with-started-requires-send-F : goal.spawn_with-started-requires-send-F
spawn_with-started-requires-send-F g c κs within =
    let lft : NamedLft = record { mir = named 7; lft = κs.1.1.1.1.1.1.1.0 } in
    param_send 2 _ (arg_send _ yes _ (taken_send _ (named 6) (named 8) (named 9)
    κs.1.1.1.1.1.1.0 κs.1.1.1.1.1.1.1.1.0 κs.1.1.1.1.1.1.1.1.1.0 (pacing.the_row lft (param 1 g.row.R) (param 2 g.row.G)) (param 3 g.row.B) g.B.TableName
    (pacing_shown.the_sync lft (param 1 g.row.R) (param 2 g.row.G) c.type_bounds.sync-R c.type_bounds.sync-G)))

pub spawn_with-started-requires-send-T : goal.spawn_with-started-requires-send-T
spawn_with-started-requires-send-T g c κs within = param_send 3 _ (arg_send _ yes _ (back_send (param 3 g.row.B) g.B.TableName))
