pub mod DueLemmas
pub use Rattle.sf_display.proofs.sf_output_shown_lemmas
