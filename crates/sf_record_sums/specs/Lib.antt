pub mod Steps
pub mod Summaries
pub use Rattle.sf_record.specs.sf_output
pub use Rattle.sf_record.specs as sf_record
