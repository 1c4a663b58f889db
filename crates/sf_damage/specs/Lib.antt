pub mod Damage
pub mod Visible
pub mod inner
pub use Rattle.sf_view.specs.sf_layer
pub use Rattle.sf_view.specs.sf_picture
pub use Rattle.sf_region.specs as sf_region
pub use Rattle.sf_view.specs.sf_tree
pub use Rattle.sf_view.specs as sf_view
