pub mod Acquired
pub mod Actors
pub mod Arrivals
pub mod Brought
pub mod Buffers
pub mod Commits
pub mod Ends
pub mod Examples
pub mod Frames
pub mod Framing
pub mod Histories
pub mod Holds
pub mod Least
pub mod NextVsyncs
pub mod SceneActors
pub mod ShownRuns
pub mod Transitions
pub mod Played
pub mod Plays
pub mod Progress
pub mod Replies
pub mod Runs
pub mod Seeing
pub mod Stages
pub mod Stepping
pub mod Stopping
pub mod Stuck
pub mod Telling
pub mod Turns
pub mod Vsyncs
pub mod RunStates
pub mod inner
pub use Rattle.sf_actor.specs as sf_actor
pub use Rattle.sf_commit.specs.sf_calls
pub use Rattle.sf_commit.specs as sf_commit
pub use Rattle.sf_commit.specs.sf_commit_next
pub use Rattle.sf_compose.specs as sf_compose
pub use Rattle.sf_compose.specs.sf_layer
pub use Rattle.sf_record.specs.sf_output
pub use Rattle.sf_output_plan.specs as sf_output_plan
pub use Rattle.sf_output_plan.specs.sf_output_shown
pub use Rattle.sf_script_scene.specs.sf_picture
pub use Rattle.sf_commit.specs.sf_ready
pub use Rattle.sf_record.specs as sf_record
pub use Rattle.sf_script_scene.specs as sf_script_scene
pub use Rattle.sf_actor.specs.sf_surface
pub use Rattle.sf_actor.specs.sf_times
pub use Rattle.sf_commit.specs.sf_token
pub use Rattle.sf_compose.specs.sf_tree
pub use Rattle.sf_actor.specs.sf_turns
pub use Rattle.sf_commit.specs.sf_txn
pub use Rattle.sf_compose.specs.sf_view
