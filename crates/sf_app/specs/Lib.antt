pub mod Words
pub mod Shown
pub mod Statuses
pub mod Callers
pub use Rattle.sf_io.specs.Causes
pub use Rattle.sf_io.specs.Streams
pub use Rattle.sf_app_options.specs as sf_app_options
pub use Rattle.sf_live.specs as sf_live
