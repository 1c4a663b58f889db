pub mod Keeping
pub mod SeatDesk
pub mod Sitting
pub mod Vsyncs
pub mod inner
pub use Rattle.sf_play_write.specs.law_play_order
pub use Rattle.sf_play_write.specs.law_played
pub use Rattle.sf_live_threads.specs.sf_actor
pub use Rattle.sf_play_write.specs.sf_actor_set
pub use Rattle.sf_live_threads.specs.sf_actor_steps
pub use Rattle.sf_live_threads.specs.sf_calls_stamped
pub use Rattle.sf_live_threads.specs.sf_commit
pub use Rattle.sf_live_threads.specs.sf_live_seats
pub use Rattle.sf_live_threads.specs as sf_live_threads
pub use Rattle.sf_play_write.specs.sf_output_plan
pub use Rattle.sf_play_write.specs.sf_output_screen
pub use Rattle.sf_play_write.specs.sf_play
pub use Rattle.sf_play_write.specs.sf_play_report
pub use Rattle.sf_play_write.specs as sf_play_write
pub use Rattle.sf_play_write.specs.sf_record
pub use Rattle.sf_live_threads.specs.sf_slots
pub use Rattle.sf_live_threads.specs.sf_surface
pub use Rattle.sf_live_threads.specs.sf_token
pub use Rattle.sf_live_threads.specs.sf_tree
pub use Rattle.sf_live_threads.specs.sf_txn
