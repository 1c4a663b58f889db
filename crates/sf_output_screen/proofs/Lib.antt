pub mod ScreenLemmas
pub use Rattle.sf_compose.proofs as sf_compose_lemmas
pub use Rattle.sf_compose.proofs.sf_view_lemmas
