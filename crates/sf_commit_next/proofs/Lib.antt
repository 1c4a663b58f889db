pub mod AskingLemmas
pub mod NextLemmas
pub mod SearchLemmas
pub use Rattle.sf_ready.proofs as sf_ready_lemmas
pub use Rattle.sf_token.proofs.sf_txn_lemmas
