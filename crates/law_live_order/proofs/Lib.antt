pub mod ArrivalStamps
pub mod VsyncStamps
pub mod CompositorCalls
pub mod CommittedArrivals
pub mod LiveOrder
pub mod NoneUpToJoin
pub use Rattle.law_joins.proofs as law_joins_lemmas
pub use Rattle.law_rounds.proofs as law_rounds_lemmas
