pub mod ActorDesk
pub mod Alongs
pub mod Deciding
pub mod Ending
pub mod Fuel
pub mod Going
pub mod Happening
pub mod LateReplies
pub mod Places
pub mod Players
pub mod Playing
pub mod Showing
pub mod Standing
pub mod Actions
pub mod VsyncOver
pub mod Vsyncing
pub use Rattle.sf_play_report.specs.law_played
pub use Rattle.law_play_order.specs as law_play_order
pub use Rattle.law_rights.specs as law_rights
pub use Rattle.sf_play_report.specs.sf_actor
pub use Rattle.law_rights.specs.sf_actor_set
pub use Rattle.law_rights.specs.sf_actor_steps
pub use Rattle.sf_play_report.specs.sf_commit
pub use Rattle.sf_play_report.specs.sf_output_plan
pub use Rattle.sf_play_report.specs as sf_play_report
pub use Rattle.sf_play_report.specs.sf_ready
pub use Rattle.sf_play_report.specs.sf_record
pub use Rattle.sf_script_scene.specs as sf_script_scene
pub use Rattle.sf_play_report.specs.sf_surface
pub use Rattle.sf_play_report.specs.sf_token
pub use Rattle.sf_play_report.specs.sf_turns
