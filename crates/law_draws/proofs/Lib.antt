pub mod EmptyRun
pub mod CallPlacement
pub mod JoinedDraws
pub mod EnteredDraws
pub mod TurnsGiven
pub mod PlacedDraws
pub mod RightsAtRest
pub mod StepRights
pub mod TraceGrowth
pub use Rattle.law_rights.proofs.law_played_lemmas
pub use Rattle.law_rights.proofs as law_rights_lemmas
pub use Rattle.law_rights.proofs.sf_actor_lemmas
pub use Rattle.law_rights.proofs.sf_actor_set_lemmas
pub use Rattle.law_rights.proofs.sf_actor_steps_lemmas
