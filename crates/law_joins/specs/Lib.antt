pub mod Calls
pub mod SeatedActors
pub mod Frames
pub mod Fronts
pub mod Joined
pub mod Logs
pub mod PlayedLogs
pub use Rattle.law_threads.specs as law_threads
