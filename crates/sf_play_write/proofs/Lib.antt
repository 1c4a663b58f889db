pub mod WritingLemmas
pub mod WroteLemmas
pub mod VsyncLemmas
pub mod ClosingLemmas
pub mod ActionLemmas
pub mod RunLemmas
pub use Rattle.sf_play.proofs.law_played_lemmas
pub use Rattle.sf_play.proofs.sf_actor_set_lemmas
pub use Rattle.sf_play.proofs as sf_play_lemmas
