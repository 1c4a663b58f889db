pub mod Firsts
pub mod Apart
pub mod ShownBuffers
pub mod TransactionKept
pub mod BufferLooks
pub mod Places
pub mod MergedOperations
pub mod Fronts
pub mod Distinct
pub use Rattle.sf_layer.proofs as sf_layer_lemmas
