pub mod Scenes
pub mod inner
pub use Rattle.sf_script.specs as sf_script
pub use Rattle.sf_script_generate.specs as sf_script_generate
