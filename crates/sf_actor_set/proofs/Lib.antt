pub mod ArrivalLemmas
pub mod ActorSetLemmas
pub mod CompositingLemmas
pub mod OpeningLemmas
pub mod PlayingLemmas
pub mod RisingLemmas
pub mod SteppingLemmas
pub use Rattle.sf_actor_steps.proofs.sf_actor_lemmas
pub use Rattle.sf_actor_steps.proofs as sf_actor_steps_lemmas
