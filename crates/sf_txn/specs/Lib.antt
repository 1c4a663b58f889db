pub mod Counts
pub mod Leases
pub mod Buffers
pub mod Transactions
pub mod Places
pub use Rattle.sf_layer.specs as sf_layer
