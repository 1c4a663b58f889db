pub mod IntervalLemmas
pub mod AncestryLemmas
pub mod PlacementLemmas
pub mod ViewLemmas
pub mod ImageLemmas
pub use Rattle.sf_tree.proofs as sf_tree_lemmas
