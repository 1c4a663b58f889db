pub mod Draft
pub mod Keywords
pub mod Mentions
pub mod Declarations
pub mod Second
pub mod Parts
pub mod Changes
pub mod Steps
pub mod Transactions
pub mod Order
pub mod Script
pub mod Parse
pub mod inner
pub use Rattle.sf_script_scene.specs.sf_picture
pub use Rattle.sf_script_scene.specs as sf_script_scene
