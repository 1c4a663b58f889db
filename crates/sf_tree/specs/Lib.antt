pub mod Layers
pub mod Trees
pub mod Rejects
pub mod Steps
pub mod Changes
pub mod Showing
pub mod DrawOrder
pub mod Kept
pub mod Index
pub use Rattle.sf_layer.specs.Ranges
pub mod Answers
pub mod inner
pub use Rattle.sf_layer.specs as sf_layer
