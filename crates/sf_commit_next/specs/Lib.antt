pub mod Asking
pub mod Heads
pub mod Next
pub use Rattle.sf_token.specs.sf_calls
pub use Rattle.sf_ready.specs as sf_ready
pub use Rattle.sf_token.specs as sf_token
pub use Rattle.sf_token.specs.sf_txn
