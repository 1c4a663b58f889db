use Rattle.std.proofs.Common.{◌≤◌}
use Rattle.sf_play.specs.Going.{fuel_of}
use Rattle.sf_play.specs.sf_script_scene.Scene.{SceneValue}
use Rattle.sf_play_write.specs.Showing.{written_at}
use Rattle.sf_play_write.specs.inner.Rows.{IsReady, IsWriting}
use Rattle.sf_play_write.proofs.play.write_play.Given as goal

-- what was shown is written behind what was there
abbrev pub invariant-actions : goal.invariant-actions
invariant-actions g l = record {
  writing : (scene : SceneValue) → IsReady g.B.TableName.table scene l.shows l.fn.first l.fn.player
      → IsWriting g.B.TableName.table scene l.shows (g.K.Sink.taken l.fn.sink) (written_at (g.K.Sink.taken l.sink) l.screens l.player);
  later : g.K.Sink.faults l.fn.sink ≤ g.K.Sink.faults l.sink;
}

abbrev pub decreases-actions : goal.decreases-actions
decreases-actions g l = fuel_of l.player
