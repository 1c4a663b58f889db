pub mod Command
pub mod Options
pub use Rattle.sf_script_words.specs as sf_script_words
