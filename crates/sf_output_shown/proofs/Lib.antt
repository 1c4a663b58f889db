pub mod StackLemmas
pub mod HitLemmas
pub mod KeepingLemmas
pub mod AboveLemmas
pub mod ByLayerLemmas
pub use Rattle.sf_view.proofs.sf_tree_lemmas
pub use Rattle.sf_view.proofs as sf_view_lemmas
