pub mod NarrowingLemmas
pub mod IndexLemmas
pub use Rattle.sf_output_shown.proofs as sf_output_shown_lemmas
pub use Rattle.sf_output_shown.proofs.sf_view_lemmas
