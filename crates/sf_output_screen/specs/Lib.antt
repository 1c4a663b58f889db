pub mod Screens
pub mod ScreenLists
pub use Rattle.sf_compose.specs as sf_compose
pub use Rattle.sf_compose.specs.sf_layer
pub use Rattle.sf_compose.specs.sf_picture
pub use Rattle.sf_compose.specs.sf_view
