pub mod Handlers
pub mod Inside
pub mod Leases
pub mod Lending
pub mod OnLayers
pub mod Releases
pub mod Rounds
pub mod Standing
pub mod inner
pub use Rattle.sf_commit_next.specs.sf_calls
pub use Rattle.sf_commit_next.specs as sf_commit_next
pub use Rattle.sf_view.specs.sf_layer
pub use Rattle.sf_view.specs.sf_picture
pub use Rattle.sf_commit_next.specs.sf_ready
pub use Rattle.sf_commit_next.specs.sf_token
pub use Rattle.sf_view.specs.sf_tree
pub use Rattle.sf_commit_next.specs.sf_txn
pub use Rattle.sf_view.specs as sf_view
