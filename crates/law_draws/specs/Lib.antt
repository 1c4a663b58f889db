pub mod Changes
pub mod Doing
pub mod Placed
pub mod Standing
pub use Rattle.law_rights.specs.law_played
pub use Rattle.law_rights.specs as law_rights
pub use Rattle.law_rights.specs.sf_actor
pub use Rattle.law_rights.specs.sf_actor_set
pub use Rattle.law_rights.specs.sf_actor_steps
pub use Rattle.law_rights.specs.sf_calls
pub use Rattle.law_rights.specs.sf_commit
pub use Rattle.law_rights.specs.sf_layer
pub use Rattle.law_rights.specs.sf_record
pub use Rattle.sf_slots.specs as sf_slots
pub use Rattle.law_rights.specs.sf_surface
pub use Rattle.law_rights.specs.sf_times
pub use Rattle.law_rights.specs.sf_token
pub use Rattle.law_rights.specs.sf_txn
