pub mod Arriving
pub mod Calls
pub mod Closing
pub mod Observers
pub mod First
pub mod Inboxes
pub mod Moves
pub mod Outboxes
pub mod Passes
pub mod Queues
pub mod Reuniting
pub mod Seats
pub mod Sent
pub mod Shared
pub use Rattle.sf_calls_stamped.specs as sf_calls_stamped
pub use Rattle.sf_commit.specs as sf_commit
pub use Rattle.sf_intake.specs as sf_intake
pub use Rattle.sf_commit.specs.sf_tree
pub use Rattle.sf_commit.specs.sf_view
