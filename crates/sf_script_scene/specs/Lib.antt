pub mod Scene
pub mod Ranges
pub mod Named
pub mod Limits
pub use Rattle.sf_picture.specs as sf_picture
