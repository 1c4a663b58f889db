pub mod Records
pub mod Events
pub mod Fitting
pub mod Reading
pub use Rattle.sf_output.specs as sf_output
