use Rattle.std.proofs.Common.{◌≡◌, ℕ, ◌≤◌, List, Option}
use Rattle.sf_script_scene.specs.Scene.{SceneValue}
use Rattle.sf_live_compositor.specs.sf_play.Going.{fuel_of}
use Rattle.sf_live_compositor.specs.sf_play.Players.{home_in}
use Rattle.sf_live_compositor.specs.sf_live_threads.Gates.{HavePassed}
use Rattle.sf_live.specs.inner.Rounds.{HasShown}
use Rattle.sf_live.proofs.rounds.show_rounds.Given as goal

-- what was shown is written behind what was there, each actor has passed its gates, and the desk tells places where it did
abbrev pub invariant-actions : goal.invariant-actions
invariant-actions g l =
    ((scene : SceneValue) (start : Option (List ℕ))
    → HasShown g.B.TableName.table scene l.shows.plan l.shows.timelines.items start (g.K.Sink.taken l.initial.sink) l.initial.screens l.initial.run.player
    → HasShown g.B.TableName.table scene l.shows.plan l.shows.timelines.items start (g.K.Sink.taken l.sink) l.screens l.run.player)
    × HavePassed l.run.player.play.actor_set.actors l.run.gates.items
    × (g.K.Sink.faults l.initial.sink ≤ g.K.Sink.faults l.sink)
    × ((home_in l.run.player.play).tells ≡ (home_in l.initial.run.player.play).tells)

abbrev pub decreases-actions : goal.decreases-actions
decreases-actions g l = fuel_of l.run.player
