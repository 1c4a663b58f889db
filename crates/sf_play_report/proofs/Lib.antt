pub mod PlanLemmas
pub mod SourceLemmas
pub mod StageLemmas
pub use Rattle.law_played.proofs as law_played_lemmas
pub use Rattle.law_played.proofs.sf_commit_lemmas
