pub mod Asking
pub mod Desks
pub mod Draws
pub mod Keeping
pub mod Known
pub mod Makers
pub mod Names
pub mod Holdings
pub mod Plain
pub mod Points
pub mod Rights
pub mod Scripts
pub mod Steps
pub mod ScriptTraces
pub mod Tests
pub mod Traces
pub mod Tries
pub mod Values
pub mod Written
pub use Rattle.sf_token.specs.sf_calls
pub use Rattle.sf_token.specs.sf_layer
pub use Rattle.sf_script_scene.specs.sf_picture
pub use Rattle.sf_script_scene.specs as sf_script_scene
pub use Rattle.sf_surface.specs.sf_slots
pub use Rattle.sf_surface.specs as sf_surface
pub use Rattle.sf_times.specs as sf_times
pub use Rattle.sf_token.specs as sf_token
pub use Rattle.sf_surface.specs.sf_turns
pub use Rattle.sf_token.specs.sf_txn
