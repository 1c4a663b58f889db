pub mod Backs
pub mod Seating
pub mod SeatedActors
pub mod Gates
pub mod Meeting
pub mod Returns
pub mod Visits
pub mod Walks
pub mod inner
pub use Rattle.sf_actor_steps.specs.sf_actor
pub use Rattle.sf_actor_steps.specs as sf_actor_steps
pub use Rattle.sf_actor_steps.specs.sf_calls
pub use Rattle.sf_live_seats.specs.sf_calls_stamped
pub use Rattle.sf_live_seats.specs.sf_commit
pub use Rattle.sf_io.specs as sf_io
pub use Rattle.sf_actor_steps.specs.sf_layer
pub use Rattle.sf_live_seats.specs as sf_live_seats
pub use Rattle.sf_picture.specs as sf_picture
pub use Rattle.sf_actor_steps.specs.sf_slots
pub use Rattle.sf_actor_steps.specs.sf_surface
pub use Rattle.sf_actor_steps.specs.sf_token
pub use Rattle.sf_live_seats.specs.sf_tree
pub use Rattle.sf_turns.specs as sf_turns
pub use Rattle.sf_actor_steps.specs.sf_txn
pub use Rattle.sf_live_seats.specs.sf_view
