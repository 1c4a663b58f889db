pub mod Callers
pub mod Cuts
pub mod Delays
pub mod Joining
pub mod Lifts
pub mod Members
pub mod Orders
pub mod Rights
pub mod Sends
pub mod Stamped
pub mod TiedJoins
pub mod Tries
pub use Rattle.law_draws.specs as law_draws
pub use Rattle.law_draws.specs.law_played
pub use Rattle.law_draws.specs.law_rights
pub use Rattle.law_draws.specs.sf_actor
pub use Rattle.law_draws.specs.sf_actor_set
pub use Rattle.law_draws.specs.sf_actor_steps
pub use Rattle.law_draws.specs.sf_calls
pub use Rattle.sf_live_compositor.specs.sf_calls_stamped
pub use Rattle.law_draws.specs.sf_commit
pub use Rattle.law_draws.specs.sf_layer
pub use Rattle.sf_live_compositor.specs as sf_live_compositor
pub use Rattle.sf_live_compositor.specs.sf_live_seats
pub use Rattle.sf_live_compositor.specs.sf_live_threads
pub use Rattle.sf_script_scene.specs.sf_picture
pub use Rattle.sf_live_compositor.specs.sf_play
pub use Rattle.sf_live_compositor.specs.sf_play_report
pub use Rattle.law_draws.specs.sf_record
pub use Rattle.sf_script_scene.specs as sf_script_scene
pub use Rattle.law_draws.specs.sf_slots
pub use Rattle.law_draws.specs.sf_surface
pub use Rattle.law_draws.specs.sf_times
pub use Rattle.law_draws.specs.sf_token
pub use Rattle.sf_turns.specs as sf_turns
pub use Rattle.law_draws.specs.sf_txn
