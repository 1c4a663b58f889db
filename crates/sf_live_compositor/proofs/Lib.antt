pub mod ReturnedFrame
pub mod SeatGrowth
pub mod TakenNumbers
pub mod Limits
pub mod Shown
pub mod Sits
pub mod FaultCounts
pub mod Lent
pub mod GivenBack
pub mod Due
pub use Rattle.sf_play_write.proofs.law_played_lemmas
pub use Rattle.sf_play_write.proofs.sf_actor_set_lemmas
pub use Rattle.sf_live_threads.proofs.sf_live_seats_lemmas
pub use Rattle.sf_live_threads.proofs as sf_live_threads_lemmas
pub use Rattle.sf_play_write.proofs.sf_play_lemmas
pub use Rattle.sf_play_write.proofs as sf_play_write_lemmas
