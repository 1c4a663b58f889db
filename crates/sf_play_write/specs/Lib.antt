pub mod Closings
pub mod Runs
pub mod Showing
pub mod Vsyncs
pub mod Writing
pub mod inner
pub use Rattle.sf_play.specs.law_play_order
pub use Rattle.sf_play.specs.law_played
pub use Rattle.sf_play.specs.law_rights
pub use Rattle.sf_play.specs.sf_actor_set
pub use Rattle.sf_play.specs.sf_output_plan
pub use Rattle.sf_output_screen.specs as sf_output_screen
pub use Rattle.sf_play.specs as sf_play
pub use Rattle.sf_play.specs.sf_play_report
pub use Rattle.sf_play.specs.sf_record
